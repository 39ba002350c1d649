-- The answer of a segment that does not start above c, by the numbers that were read: rules whose premises stand among a need's facts.
use Rattle.std.specs.Prelude.{Option, Some}
use Prim.Native.Nat.{ℕ, ◌+◌, ◌*◌, ◌-◌, ◌/◌, ◌%◌, ◌≤◌}
use mathlib.Core.Path.{◌≡◌, refl}
use mathlib.Core.List.{List}
use Rattle.laws.proofs.ChoiceLaws.{else_lt, if_eq_lem, else_eq}
use Rattle.number.specs.BigEndian.{Num}
use Rattle.heads_lookup.specs.Lookup.{in_segment, in_array}

module _ (xs : List ℕ) (at s len i c start delta offset : ℕ) where
  abbrev pub ReadStart : Type 0
  ReadStart = Num 2 xs (at + 16 + 2 * s + 2 * i) start

  abbrev pub ReadDelta : Type 0
  ReadDelta = Num 2 xs (at + 16 + 4 * s + 2 * i) delta

  abbrev pub ReadOffset : Type 0
  ReadOffset = Num 2 xs (at + 16 + 6 * s + 2 * i) offset

  pub by_delta : ReadStart → ReadDelta → ReadOffset → start ≤ c → offset ≡ 0 → Some ((c + delta) % 65536) ≡ in_segment xs at s len i c
  unfolding in_segment
  by_delta a b d h e = rw (← a.is, ← b.is, ← d.is) (else_lt _ _ _ _ h (if_eq_lem _ _ _ _ e refl))

  pub by_array : (r : Option ℕ) → ReadStart → ReadDelta → ReadOffset → start ≤ c → (offset ≡ 0 → ⊥)
      → r ≡ in_array xs at s len (offset / 2 + (c - start) + i) delta → r ≡ in_segment xs at s len i c
  unfolding in_segment
  by_array r a b d h e q = rw (← a.is, ← b.is, ← d.is) (else_lt _ _ _ _ h (else_eq _ _ _ _ e q))

pub ruleset segment_answers = (by_delta, by_array)
