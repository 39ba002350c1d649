-- A job that refusals 1 and 2 let pass holds to the limits.
use mathlib.Core.Path.{◌≡◌}
use mathlib.Core.Bool.{false}
use lib.ListN.{length}
use Rattle.number.specs.BigEndian.{Bytes}
use Rattle.lists_checks.specs.Checks.{bad_sizes, bad_pairs}
use Rattle.lists_checks.proofs.SizesLaws.{sizes, codes_rise, codes_low, glyphs_low}
use Rattle.plan_listing.specs.Job.{Job, glyph_count}
use Rattle.result.specs.Lent.{Lent}

pub lent : (j : Job) → Bytes j.source → bad_sizes (length j.source) (length j.codes) (length j.glyphs) (length j.kept) (glyph_count j) (length j.requested) ≡ false
    → bad_pairs j.codes j.glyphs ≡ false → Lent j
lent j b e p =
    let s = sizes (length j.source) (length j.codes) (length j.glyphs) (length j.kept) (glyph_count j) (length j.requested) e in
    record {
      bytes = b;
      source_short = s.source_short;
      codes_rise = codes_rise j.codes j.glyphs p;
      codes_low = codes_low j.codes j.glyphs p;
      glyphs_low = glyphs_low j.codes j.glyphs p;
      kept_few = s.kept_few;
    }
