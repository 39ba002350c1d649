-- The closure reads a number, and the search ends at x or at the gap for it.
use Rattle.std.proofs.Common.{rules, ap, ◌∙◌, arith}
use Rattle.std.proofs.lemmas.List.Sorted.{answers_always}
use Rattle.lists_marks.specs.Marks.{holds}
use Rattle.lists_marks.proofs.FoundLaws.{found_told}
use Rattle.lists_marks.proofs.member.Goals as goal

pub returns : goal.returns
returns g c =
    let facts = c.binary_search_by_key.ensures in
    let by_number = facts.position g.T.Unsigned.value (answers_always _ _ _ (λ f a r g called. search rules)) in
    let laws = g.met.T.Unsigned in
    c.is_ok.ensures.value
    ∙ found_told g.T.Unsigned.value c.args.xs.now _ _ c.args.x (laws.values_length _) (laws.value_at _) c.requires _ facts.bound by_number
    ∙ ap (holds (g.T.Unsigned.values c.args.xs.now)) (omega arith)
