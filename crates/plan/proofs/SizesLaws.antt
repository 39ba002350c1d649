-- The lengths of new tables are short: those of format 4 have 16 bits, and format 12 has at most a group a pair.
use Prim.Native.Nat.{ℕ, ◌+◌, ◌*◌, ◌≤◌}
use mathlib.Core.Path.{◌≡◌, sym, ap, ◌∙◌}
use mathlib.Core.List.{List}
use native.Mathlib.Omega.{arith}
use lib.ListN.{length}
use Rattle.laws.specs.Lists.{Pair}
use Rattle.laws.proofs.LengthLaws.{length-map}
use Rattle.plan_listing.specs.Listing.{code_column, glyph_column}
use Rattle.plan_listing.specs.Job.{Job}
use Rattle.format4.specs.declared.Size4.{Size4}
use Rattle.format4.specs.Size.{size_of4}
use Rattle.format4.proofs.CountLaws.{fits_tells}
use Rattle.format12.specs.declared.Size12.{Size12}
use Rattle.format12.specs.Format12.{groups, size_of12}
use Rattle.format12.proofs.GroupsLaws.{length-groups}
use Rattle.plan.specs.Making.{PairsRoom}
use Rattle.plan.proofs.MakingLaws.{pairs_columns, length-listed}
use Rattle.format14.specs.Selectors.{Job14}
use Rattle.format14.specs.declared.Outcome14.{Outcome14}
use Rattle.format14.specs.Format14.{outcome14}
use Rattle.plan.specs.declared.Outcome.{Outcome}
use Rattle.plan.specs.declared.Outcome.TheVariants.{Made}
use Rattle.plan.specs.Sizes.{Short}
use Rattle.plan.specs.Fresh.{listed_of, by4, by14}
use Rattle.plan.specs.Making.{Short4}

pub short4 : (ps : List Pair) (size : Size4) → size ≡ size_of4 ps → Short4 size
short4 ps size e = record { fits = λ n q. (fits_tells ps n (sym e ∙ q)).short }

groups_few : (ps : List Pair) → length (groups ps) ≤ length ps
groups_few ps = omega (arith, rw (pairs_columns ps) at (length-groups (code_column ps) (glyph_column ps)), length-map (λ (p : Pair). p.0) ps)

module _ (j : Job) (k : ℕ) (fs tocs togs : List ℕ) (p : PairsRoom j k fs tocs togs) where
  pub short12 : (size : Size12) → size ≡ size_of12 (listed_of j k) → Short (Made size.bytes)
  short12 size e =
      let b : size.bytes ≡ 16 + 12 * length (groups (listed_of j k)) = ap (λ (z : Size12). z.bytes) e in
      let g = groups_few (listed_of j k) in
      let l = length-listed j k in
      record { below = omega (arith, b, g, l, p.few) }

  pub made12 : (size : Size12) → size ≡ size_of12 (listed_of j k) → Made size.bytes ≡ Made (size_of12 (listed_of j k)).bytes
  made12 size e = ap (λ (z : Size12). Made z.bytes) e

-- what the size came to, by the pairs
pub outcome4 : (ps : List Pair) (size : Size4) (o : Outcome) → size ≡ size_of4 ps → o ≡ by4 size → o ≡ by4 (size_of4 ps)
outcome4 ps size o e h = rw e at h

pub outcome_14 : (g : Job14) (found : Outcome14) (o : Outcome) → found ≡ outcome14 g → o ≡ by14 found → o ≡ by14 (outcome14 g)
outcome_14 g found o e h = rw e at h

pub ruleset sizes = (short4, short12, made12, outcome4, outcome_14)
