-- The work room is enough for a job that refusals 1 to 7 let pass.
use Prim.Native.Nat.{ℕ, ◌≤◌}
use native.Mathlib.Omega.{arith}
use lib.ListN.{length, replicate, length-replicate}
use Rattle.lists_checks.proofs.SizesLaws.{Sizes, sizes}
use Rattle.number.specs.Limits.{kept_max, pairs_max}
use Rattle.plan_listing.specs.Job.{Job, glyph_count}
use Rattle.plan.specs.Prepared.{Prepared}
use Rattle.result.proofs.RefusalLaws.{early_passed}
use Rattle.cmap_refusals.proofs.RefusingLaws.{early_prepared}
use Rattle.cmap_concluding.specs.Concluding.{Passing}
use Rattle.cmap_rooms.specs.Rooms.{FitsRoom}

module _ (j : Job) (p : Passing j) where
  limits : Sizes (length j.source) (length j.codes) (length j.glyphs) (length j.kept) (glyph_count j) (length j.requested)
  limits = sizes (length j.source) (length j.codes) (length j.glyphs) (length j.kept) (glyph_count j) (length j.requested) (early_passed j p.passed).sizes

  -- the full room is enough for any job
  pub full_few : FitsRoom kept_max pairs_max j.codes j.kept
  full_few = record { points = limits.kept_few; pairs = limits.few_pairs }

  -- a cleared room of a flags in each row and of b places for pairs
  pub cleared : (a b : ℕ) → b ≤ a → FitsRoom a b j.codes j.kept → Prepared j (replicate a 0) (replicate a 0) (replicate b 0) (replicate b 0)
  cleared a b h q =
      let f = length-replicate {A = ℕ} a 0 in
      let c = length-replicate {A = ℕ} b 0 in
      early_prepared j (replicate a 0) (replicate a 0) (replicate b 0) (replicate b 0) p.passed
      (omega (arith, f, h, q.pairs)) (omega (arith, f, q.points)) (omega (arith, f, q.points)) (omega (arith, c, q.pairs)) (omega (arith, c, q.pairs))
