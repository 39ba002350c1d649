-- Which bytes make a record, and what five of them one after the other tell.
use Prim.Native.Nat.{ℕ, ◌+◌, ◌*◌, ◌/◌, ◌%◌, ◌≤◌, ◌<◌}
use native.Mathlib.Nat.{mul-div-le, div-add-mod, mul-le-mul_left}
use mathlib.Core.Path.{◌≡◌, refl, sym, subst, ◌∙◌}
use mathlib.Core.List.{List}
use mathlib.Core.Bool.{Bool, true, false}
use mathlib.Core.Logic.{⊎_elim}
use native.Mathlib.Omega.{arith}
use lib.ListN.{length, take}
use lib.Seq.{take_all}
use lib.Dec.{leb, eqb}
use borrow.Author.Tests.{le-leb, leb-true, eq-eqb, eqb-true}
use Rattle.std.proofs.Common.{Option, Some, None}
use Rattle.std.proofs.lemmas.Option.{none-some, same_Some, option_and_then_some}
use Rattle.laws.specs.Choice.{if_eq}
use Rattle.laws.proofs.ChoiceLaws.{both_left, both_right, not-true, false-true, if_eq_lem, lt_or_le}
use Rattle.laws.proofs.TakeLaws.{take_counts}
use Rattle.number.specs.BigEndian.{Num}
use Rattle.job_input.specs.declared.Field.{Field}
use Rattle.job_input.specs.declared.Places.{Places}
use Rattle.job_input.specs.Job.{mark, size, within, stands, field_of, field_at, located, job_at, parse, parsed_job}
use Rattle.job_input.specs.Room.{Payload, Payloads}

-- ---- one record

pub record Stands (m width most : ℕ) (xs : List ℕ) (at : ℕ) : Type 0 where
  pub head : at + 6 ≤ length xs
  pub marked : mark xs at ≡ m
  pub room : at + 6 + size xs at ≤ length xs
  pub entries : within width most (size xs at) ≡ true

module _ (m width most : ℕ) (xs : List ℕ) (at : ℕ) where
  pub stands_facts : stands m width most xs at ≡ true → Stands m width most xs at
  unfolding stands
  stands_facts e =
      let e₁ = both_right (leb (at + 6) (length xs)) _ e in
      let e₂ = both_right (eqb (mark xs at) m) _ e₁ in
      record {
        head = leb-true _ _ (both_left _ _ e);
        marked = eqb-true _ _ (both_left _ _ e₁);
        room = leb-true _ _ (both_left _ _ e₂);
        entries = both_right (leb (at + 6 + size xs at) (length xs)) _ e₂;
      }

  pub stands-true : Stands m width most xs at → stands m width most xs at ≡ true
  unfolding stands
  stands-true g = rw (le-leb _ _ g.head, eq-eqb _ _ g.marked, le-leb _ _ g.room, g.entries)

  -- a fact that fails, and all of them
  pub broken : (Stands m width most xs at → ⊥) → None ≡ field_at m width most xs at
  unfolding field_at
  broken f = rw (not-true (stands m width most xs at) (λ e. f (stands_facts e)))

  pub whole : Stands m width most xs at → Some (field_of width xs at) ≡ field_at m width most xs at
  unfolding field_at
  whole g = rw (stands-true g)

  -- the same with the code's own length n and its test t
  module _ (n : ℕ) (t : Bool) (l : Num 4 xs (at + 2) n) (q : t ≡ within width most n) where
    pub broken_entries : t ≡ false → None ≡ field_at m width most xs at
    broken_entries e = broken (λ g. false-true (sym e ∙ q ∙ rw l.is g.entries))

    pub whole_entries : at + 6 ≤ length xs → mark xs at ≡ m → at + 6 + n ≤ length xs → t ≡ true → Some (record { at = at + 6; count = n / width; end = at + 6 + n }) ≡ field_at m width most xs at
    whole_entries h k r e = rw l.is (whole (record { head = h; marked = k; room = rw (← l.is) r; entries = rw (← l.is) (sym q ∙ e) }))

-- ---- what a record that stands tells

module _ (m width most : ℕ) (xs : List ℕ) (at : ℕ) (f : Field) where
  pub field_stands : field_at m width most xs at ≡ Some f → Stands m width most xs at
  unfolding field_at
  field_stands e = stands_facts m width most xs at (go (stands m width most xs at) refl)
    where
      go : (t : Bool) → stands m width most xs at ≡ t → stands m width most xs at ≡ true
      go true h = h
      go false h = absurd (none-some f (rw h at e))

  pub field_is : field_at m width most xs at ≡ Some f → field_of width xs at ≡ f
  field_is e = same_Some (field_of width xs at) f (whole m width most xs at (field_stands e) ∙ e)

  pub field_payload : field_at m width most xs at ≡ Some f → Payload width most xs f
  unfolding within
  field_payload e =
      let g = field_stands e in
      rw (← field_is e) (record {
        inside = omega (arith, g.room, mul-div-le (size xs at) width);
        few = leb-true (size xs at / width) most (both_right (eqb (size xs at % width) 0) _ g.entries);
      })

  pub field_end : field_at m width most xs at ≡ Some f → f.end ≤ at + 6 + width * most
  unfolding within
  field_end e =
      let g = field_stands e in
      let z = eqb-true (size xs at % width) 0 (both_left _ (leb (size xs at / width) most) g.entries) in
      let l = leb-true (size xs at / width) most (both_right (eqb (size xs at % width) 0) _ g.entries) in
      rw (← field_is e) (omega (arith, z, div-add-mod (size xs at) width, mul-le-mul_left width l))

-- ---- what five records that stand tell

end_at : (p q : Places) (a b : ℕ) → if_eq a b (Some q) None ≡ Some p → (a ≡ b) × (q ≡ p)
unfolding if_eq
end_at p q a b e = go (eqb a b) refl
  where
    go : (t : Bool) → eqb a b ≡ t → (a ≡ b) × (q ≡ p)
    go true h = (eqb-true a b h, same_Some q p (rw h at e))
    go false h = absurd (none-some p (rw h at e))

-- each record stands behind the one before, and the last ends where the bytes do
pub record Five (xs : List ℕ) (p : Places) : Type 0 where
  pub source : field_at 0x5442 1 32768 xs 0 ≡ Some p.source
  pub pairs : field_at 0x5052 6 2048 xs p.source.end ≡ Some p.pairs
  pub kept : field_at 0x4B50 4 4096 xs p.pairs.end ≡ Some p.kept
  pub map : field_at 0x4D50 2 8192 xs p.kept.end ≡ Some p.map
  pub requested : field_at 0x5251 2 2048 xs p.map.end ≡ Some p.requested
  pub ends : p.requested.end ≡ length xs

module _ (xs : List ℕ) (p : Places) where
  pub five : located xs ≡ Some p → Five xs p
  unfolding located
  five e =
      option_and_then_some _ _ p e (λ source e₁ h₁. option_and_then_some _ _ p h₁ (λ pairs e₂ h₂. option_and_then_some _ _ p h₂ (λ kept e₃ h₃. option_and_then_some _ _ p h₃ (λ map e₄ h₄. option_and_then_some _ _ p h₄ (λ requested e₅ h₅.
      let t = end_at p _ requested.end (length xs) h₅ in
      subst (Five xs) t.1 (record { source = e₁; pairs = e₂; kept = e₃; map = e₄; requested = e₅; ends = t.0 }))))))

  pub five_located : Five xs p → located xs ≡ Some p
  unfolding located
  five_located g = rw (g.source, g.pairs, g.kept, g.map, g.requested) (sym (if_eq_lem p.requested.end (length xs) (Some p) None g.ends refl))

  pub placed : located xs ≡ Some p → Payloads xs p
  placed e =
      let g = five e in
      record {
        source = field_payload _ _ _ _ _ _ g.source;
        pairs = field_payload _ _ _ _ _ _ g.pairs;
        kept = field_payload _ _ _ _ _ _ g.kept;
        map = field_payload _ _ _ _ _ _ g.map;
        requested = field_payload _ _ _ _ _ _ g.requested;
      }

  -- no job is longer than five heads and five full payloads
  longest : located xs ≡ Some p → length xs ≤ 81950
  longest e =
      let g = five e in
      omega (
        arith,
        g.ends,
        field_end _ _ _ _ _ _ g.source,
        field_end _ _ _ _ _ _ g.pairs,
        field_end _ _ _ _ _ _ g.kept,
        field_end _ _ _ _ _ _ g.map,
        field_end _ _ _ _ _ _ g.requested,
      )

  -- the places give the lists
  pub job_at_lem : located xs ≡ Some p → parsed_job (parse xs) ≡ job_at xs p
  job_at_lem e = rw e

long_damaged : (xs : List ℕ) → 81950 < length xs → located xs ≡ None
long_damaged xs h = go (located xs) refl
  where
    go : (r : Option Places) → located xs ≡ r → located xs ≡ None
    go (Some p) e = absurd (omega (arith, h, longest xs p e))
    go None e = e

-- so of a longer input it is enough to read one byte more than that
pub enough_read : (xs : List ℕ) → parse (take 81951 xs) ≡ parse xs
enough_read xs = ⊎_elim longer (λ l. rw (take_all 81951 xs l)) (lt_or_le 81951 (length xs))
  where
    longer : 81951 < length xs → parse (take 81951 xs) ≡ parse xs
    longer l =
        let n = take_counts 81951 xs (omega (arith, l)) in
        rw (long_damaged xs (omega (arith, l)), long_damaged (take 81951 xs) (omega (arith, n)))
