-- Each array is filled with its column.
use Rattle.std.proofs.Common.{rules, ◌+◌}
use Rattle.job_lists.proofs.FillingLaws.{number_of, filled_column}
use Rattle.job_lists.proofs.Lists.fill.Goals as goal

pub returns : goal.returns
returns c =
    let s = c.args.s.now in
    let p = c.args.places in
    let codes = filled_column 4 6 s p.pairs.at p.pairs.count _ _ (c.fill.ensures (number_of 4 6 s p.pairs.at) (λ i r h q. search rules)) in
    let glyphs = filled_column 2 6 s (p.pairs.at + 4) p.pairs.count _ _ (c.fill-2.ensures (number_of 2 6 s (p.pairs.at + 4)) (λ i r h q. search rules)) in
    let kept = filled_column 4 4 s p.kept.at p.kept.count _ _ (c.fill-3.ensures (number_of 4 4 s p.kept.at) (λ i r h q. search rules)) in
    let map = filled_column 2 2 s p.map.at p.map.count _ _ (c.fill-4.ensures (number_of 2 2 s p.map.at) (λ i r h q. search rules)) in
    let requested = filled_column 2 2 s p.requested.at p.requested.count _ _ (c.fill-5.ensures (number_of 2 2 s p.requested.at) (λ i r h q. search rules)) in
    rw (codes, glyphs, kept, map, requested)
