-- A head's answer by the header h that was read, as rules whose premises stand among a need's facts; and what a head gives of a table.
use Rattle.std.specs.Prelude.{Option, Some, None, Result, Ok, Err}
use Prim.Native.Nat.{ℕ, ◌+◌, ◌*◌, ◌<◌, ◌≤◌}
use mathlib.Core.Path.{◌≡◌, refl, sym, ◌∙◌}
use mathlib.Core.List.{List}
use mathlib.Core.Bool.{true, false}
use mathlib.Core.Logic.{◌⊎◌, inl, inr}
use native.Mathlib.Omega.{arith}
use lib.ListN.{length}
use lib.Dec.{ltb}
use Rattle.laws.specs.Choice.{if_lt}
use Rattle.laws.proofs.ChoiceLaws.{by_pick, if_lt_lem, else_lt}
use Rattle.laws.proofs.FirstLaws.{first_is, first_past}
use Rattle.source_header.specs.Header.{refused5, record_count, header_of, offset_of}
use Rattle.source_header.proofs.HeaderLaws.{Accepted, not_refused, tells_records, tells_refused}
use Rattle.source_records.specs.Records.{leads_to_format}
use Rattle.heads_lookup.specs.Lookup.{lookup4, lookup12, glyph_of}
use Rattle.heads.specs.declared.HeadRefusal.{HeadRefusal}
use Rattle.heads.specs.declared.HeadRefusal.TheVariants.{BadHeader, NothingReadable}
use Rattle.heads.specs.Heads.{old_of, new_of, by_records, old_head, new_head, head_number_of}

-- ---- by the header

module _ (xs : List ℕ) where
  pub by_accepted : {n : ℕ} (answer : ℕ → Result ℕ HeadRefusal) → Accepted xs n → by_records xs answer ≡ answer n
  unfolding by_records
  by_accepted answer a = rw (not_refused xs a, ← a.count)

  module _ (h : Option ℕ) where
    pub records_fit : (n : ℕ) → h ≡ header_of xs → h ≡ Some n → 4 + 8 * n ≤ length xs
    records_fit n q e = (tells_records xs (sym q ∙ e)).fits

    pub head_accepted : (answer : ℕ → Result ℕ HeadRefusal) (n : ℕ) (r : Result ℕ HeadRefusal) → h ≡ header_of xs → h ≡ Some n → r ≡ answer n → r ≡ by_records xs answer
    head_accepted answer n r q e f = f ∙ sym (by_accepted answer (tells_records xs (sym q ∙ e)))

    pub head_refused : (answer : ℕ → Result ℕ HeadRefusal) → h ≡ header_of xs → h ≡ None → Err BadHeader ≡ by_records xs answer
    unfolding by_records
    head_refused answer q e = rw (tells_refused xs (sym q ∙ e))

pub ruleset by_header = (head_accepted, head_refused)

-- ---- an accepted table of n records: the first that leads to the format is k, or there is none

module _ (xs : List ℕ) (n : ℕ) (a : Accepted xs n) (c : ℕ) where
  pub old_first : (k : ℕ) → k < n → leads_to_format 4 xs k ≡ true → ((j : ℕ) → j < k → leads_to_format 4 xs j ≡ false)
      → old_head xs c ≡ Ok (glyph_of (lookup4 xs (offset_of xs k) c))
  unfolding old_of
  old_first k h e miss =
      let f = first_is (leads_to_format 4 xs) n k h e miss in
      by_accepted xs (old_of xs c) a ∙ rw f (sym (if_lt_lem k n _ _ h refl))

  pub new_first : (k : ℕ) → k < n → leads_to_format 12 xs k ≡ true → ((j : ℕ) → j < k → leads_to_format 12 xs j ≡ false)
      → new_head xs c ≡ Ok (glyph_of (lookup12 xs (offset_of xs k) c))
  unfolding new_of
  new_first k h e miss =
      let f = first_is (leads_to_format 12 xs) n k h e miss in
      by_accepted xs (new_of xs c) a ∙ rw f (sym (if_lt_lem k n _ _ h refl))

  pub new_as_old : ((j : ℕ) → j < n → leads_to_format 12 xs j ≡ false) → new_head xs c ≡ old_head xs c
  unfolding new_of
  new_as_old miss =
      let f = first_past (leads_to_format 12 xs) n miss in
      by_accepted xs (new_of xs c) a ∙ rw f (sym (else_lt n n _ _ (omega arith) refl)) ∙ sym (by_accepted xs (old_of xs c) a)

  pub old_none : ((j : ℕ) → j < n → leads_to_format 4 xs j ≡ false) → old_head xs c ≡ Err NothingReadable
  unfolding old_of
  old_none miss =
      let f = first_past (leads_to_format 4 xs) n miss in
      by_accepted xs (old_of xs c) a ∙ rw f (sym (else_lt n n _ _ (omega arith) refl))

-- ---- a head's number is 0, 5 or 11

pub record Told (r : Result ℕ HeadRefusal) : Type 0 where
  pub number : (head_number_of r ≡ 0) ⊎ ((head_number_of r ≡ 5) ⊎ (head_number_of r ≡ 11))

told_if : (a b : ℕ) (x y : Result ℕ HeadRefusal) → Told x → Told y → Told (if_lt a b x y)
unfolding if_lt
told_if a b x y p q = by_pick Told (ltb a b) x y (λ e. p) (λ e. q)

module _ (xs : List ℕ) (c : ℕ) where
  old_told : (n : ℕ) → Told (old_of xs c n)
  unfolding old_of
  old_told n = told_if _ _ _ _ (record { number = inl refl }) (record { number = inr (inr refl) })

  new_told : (n : ℕ) → Told (new_of xs c n)
  unfolding new_of
  new_told n = told_if _ _ _ _ (record { number = inl refl }) (old_told n)

  told_by_lem : (answer : ℕ → Result ℕ HeadRefusal) → ((n : ℕ) → Told (answer n)) → Told (by_records xs answer)
  unfolding by_records
  told_by_lem answer f =
      by_pick Told (refused5 xs) (Err BadHeader) (answer (record_count xs)) (λ e. record { number = inr (inl refl) }) (λ e. f (record_count xs))

  pub old_number : Told (old_head xs c)
  old_number = told_by_lem (old_of xs c) old_told

  pub new_number : Told (new_head xs c)
  new_number = told_by_lem (new_of xs c) new_told
