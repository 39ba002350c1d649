-- How long the parts of a result are, where each table is as long as its outcome says.
use Prim.Native.Nat.{ℕ, zero, suc, ◌+◌, ◌*◌, ◌-◌}
use mathlib.Core.Path.{◌≡◌, refl, sym, ap}
use mathlib.Core.List.{List, [], ◌++◌}
use mathlib.Core.Bool.{true}
use native.Mathlib.Omega.{arith}
use lib.ListN.{length, length-append}
use Rattle.laws.proofs.ChoiceLaws.{by_test}
use Rattle.number.specs.BigEndian.{enc}
use Rattle.number.proofs.BigEndianLaws.{length-enc}
use Rattle.plan_listing.specs.Job.{Job}
use Rattle.plan.specs.declared.Outcome.{Outcome}
use Rattle.plan.specs.declared.Outcome.TheVariants.{Made}
use Rattle.plan.specs.Outcomes.{is_made, maker_of}
use Rattle.plan.specs.Sizes.{made_size}
use Rattle.plan.specs.Fresh.{table_of}
use Rattle.plan.proofs.SizeLaws.{made_size_lem, unmade_size}
use Rattle.result.specs.Result.{count_from, written_count, record_bytes, records_from, tables_from, result_of, new_offset, tables_start}
use Rattle.result.specs.Layout.{sizes_from, result_length, place_by_sizes}
use Rattle.plan.specs.Outcomes.{is_written, at}
use Rattle.laws.specs.Choice.{pick}

module _ (offset : ℕ → ℕ) (xs : List ℕ) (os : List Outcome) where
  pub length_record : (k : ℕ) → length (record_bytes offset xs os k) ≡ 8
  length_record k = rw (length-append, length-append, length-enc, length-enc, length-enc)

  pub length_records : (n k : ℕ) → length (records_from offset xs os n k) ≡ 8 * count_from os n k
  unfolding records_from count_from
  length_records zero k = refl
  length_records (suc n) k =
      let r = length_records n (k + 1) in
      by_test (length (records_from offset xs os (suc n) k) ≡ 8 * count_from os (suc n) k) (is_written (at os k))
      (λ e. rw (e, length-append (record_bytes offset xs os k) (records_from offset xs os n (k + 1)), length_record k, r) (omega arith))
      (λ e. rw e r)

-- records whose makers' offsets agree are the same
pub records_alike : (here there : ℕ → ℕ) (xs : List ℕ) (os : List Outcome) → ((k : ℕ) → here k ≡ there k) → (n k : ℕ)
    → records_from here xs os n k ≡ records_from there xs os n k
unfolding records_from
records_alike here there xs os h zero k = refl
records_alike here there xs os h (suc n) k = rw (h (maker_of (at os k) k), records_alike here there xs os h n (k + 1))

module _ (j : Job) (os : List Outcome) (made : (k n : ℕ) → at os k ≡ Made n → n ≡ length (table_of j k)) where
  pub size_made : (k : ℕ) → is_made (at os k) ≡ true → made_size (at os k) ≡ length (table_of j k)
  size_made k e = made k (made_size (at os k)) (made_size_lem (at os k) e)

  own_length : (k : ℕ) → length (pick (is_made (at os k)) (table_of j k) []) ≡ made_size (at os k)
  own_length k =
      by_test (length (pick (is_made (at os k)) (table_of j k) []) ≡ made_size (at os k)) (is_made (at os k))
      (λ e. rw e (sym (size_made k e)))
      (λ e. rw e (sym (unmade_size (at os k) e)))

  pub length_tables : (n k : ℕ) → length (tables_from j os n k) ≡ sizes_from os n k
  unfolding tables_from sizes_from
  length_tables zero k = refl
  length_tables (suc n) k =
      omega (arith, length-append (tables_from j os n (k + 1)) (pick (is_made (at os k)) (table_of j k) []), own_length k, length_tables n (k + 1))

  -- a table's offset, by the lengths that the plan holds
  pub offset_place : (k : ℕ) → new_offset j os k ≡ place_by_sizes os k
  unfolding new_offset place_by_sizes
  offset_place k = ap (λ (n : ℕ). tables_start os + n) (length_tables (length os - (k + 1)) (k + 1))

  pub length_result : length (result_of j os) ≡ result_length os
  unfolding result_of
  length_result =
      let records = records_from (new_offset j os) j.source os (length os) 0 in
      let tables = tables_from j os (length os) 0 in
      rw (
        length-append (enc 2 0) (enc 2 (written_count os) ++ (records ++ tables)),
        length-append (enc 2 (written_count os)) (records ++ tables),
        length-append records tables,
        length-enc 2 0,
        length-enc 2 (written_count os),
        length_records (new_offset j os) j.source os (length os) 0,
        length_tables (length os) 0,
      ) (omega arith)
