-- Copied to the front of arrays that are as long as the limits, a job's lists stand there whole.
use Prim.Native.Nat.{ℕ, ◌+◌, ◌≤◌}
use mathlib.Core.Path.{◌≡◌, refl, ap}
use mathlib.Core.List.{List}
use native.Mathlib.Omega.{arith}
use lib.ListN.{length}
use Rattle.std.proofs.Common.{Some}
use lib.Seq.{sets, length-sets}
use Rattle.laws.proofs.SetsLaws.{take-sets}
use Rattle.plan_listing.specs.Job.{Job}
use Rattle.job_input.specs.declared.Places.{Places}
use Rattle.job_input.specs.Column.{column}
use Rattle.job_input.specs.Job.{located, job_at, parse, parsed_job}
use Rattle.job_lists.specs.declared.Lists.{Lists}
use Rattle.job_lists.specs.Lent.{AtFront, ListsHeld, with_lists}
use Rattle.job_input.proofs.ColumnLaws.{length-column}
use Rattle.job_input.proofs.JobLaws.{placed, job_at_lem}

module _ (w stride : ℕ) (xs : List ℕ) (at n : ℕ) (buffer : List ℕ) where
  front_column : n ≤ length buffer → AtFront n (sets buffer 0 (column w stride xs at n)) (column w stride xs at n)
  front_column h =
      let l = length-column w stride xs at n in
      record {
        room = rw (length-sets buffer 0 (column w stride xs at n)) h;
        is = rw l at (take-sets buffer (column w stride xs at n) (rw l h));
      }

module _ (xs : List ℕ) (p : Places) (e : located xs ≡ Some p) where
  -- one list of the job: where its numbers stand, and the array before and after
  front : (part : Job → List ℕ) (w stride at n : ℕ) → part (job_at xs p) ≡ column w stride xs at n
      → (most : ℕ) (buffer buffer' : List ℕ) → n ≤ most → most ≤ length buffer → buffer' ≡ sets buffer 0 (part (parsed_job (parse xs)))
      → AtFront n buffer' (part (job_at xs p))
  front part w stride at n q most buffer buffer' a b h =
      rw (h, job_at_lem xs p e, q) (front_column w stride xs at n buffer (omega (arith, a, b)))

  pub lent : (l₀ l : Lists) → 2048 ≤ length l₀.codes → 2048 ≤ length l₀.glyphs → 4096 ≤ length l₀.kept → 8192 ≤ length l₀.map → 2048 ≤ length l₀.requested
      → l ≡ with_lists l₀ (parsed_job (parse xs)) → ListsHeld xs p l
  lent l₀ l codes glyphs kept map requested h =
      let g = placed xs p e in
      record {
        source = omega (arith, g.source.inside);
        codes = front (λ j. j.codes) 4 6 p.pairs.at p.pairs.count refl 2048 l₀.codes l.codes g.pairs.few codes (ap (λ k. k.codes) h);
        glyphs = front (λ j. j.glyphs) 2 6 (p.pairs.at + 4) p.pairs.count refl 2048 l₀.glyphs l.glyphs g.pairs.few glyphs (ap (λ k. k.glyphs) h);
        kept = front (λ j. j.kept) 4 4 p.kept.at p.kept.count refl 4096 l₀.kept l.kept g.kept.few kept (ap (λ k. k.kept) h);
        map = front (λ j. j.new_glyphs) 2 2 p.map.at p.map.count refl 8192 l₀.map l.map g.map.few map (ap (λ k. k.map) h);
        requested = front (λ j. j.requested) 2 2 p.requested.at p.requested.count refl 2048 l₀.requested l.requested g.requested.few requested (ap (λ k. k.requested) h);
      }
