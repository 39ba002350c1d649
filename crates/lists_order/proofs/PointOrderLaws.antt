-- The tests of all numbers asked place by place, and where a code point stands among the kept ones.
use Prim.Native.Nat.{ℕ, ◌-◌, ◌<◌, ◌≤◌}
use mathlib.Core.Path.{◌≡◌, sym, ap, ◌∙◌}
use mathlib.Core.List.{List}
use mathlib.Core.Bool.{Bool, true, not}
use native.Mathlib.Omega.{arith}
use lib.Dec.{ltb, eqb}
use lib.ListN.{length, get_or}
use Rattle.laws.specs.Search.{some}
use Rattle.laws.specs.Lists.{Rising}
use Rattle.lists_marks.specs.Marks.{holds, Bound}
use Rattle.lists_marks.proofs.BelowLaws.{below_past, below_upto, member_here, member_nowhere}
use Rattle.laws.proofs.ChoiceLaws.{by_leb}
use Rattle.laws.proofs.RisingLaws.{rising_lt}
use Rattle.laws.proofs.AnyLaws.{any_of-some}
use Rattle.lists_order.specs.Order.{exceeds, lacks}
use Rattle.lists_order.proofs.OrderLaws.{is_above}

-- ---- asked place by place

pub exceeds_told : (m : ℕ) (xs : List ℕ) (r : Bool) → r ≡ some (is_above m xs) (length xs) 0 → r ≡ exceeds m xs
unfolding exceeds
exceeds_told m xs r e = e ∙ sym (any_of-some (ltb m) 0 xs)

abbrev pub is_missing : List ℕ → List ℕ → ℕ → Bool
is_missing kept codes i = not (holds kept (get_or codes i 0))

pub lacks_told : (kept codes : List ℕ) (r : Bool) → r ≡ some (is_missing kept codes) (length codes) 0 → r ≡ lacks kept codes
unfolding lacks
lacks_told kept codes r e = e ∙ sym (any_of-some (λ c. not (holds kept c)) 0 codes)

-- ---- c stands behind the kept points below it, or nowhere

module _ (kept : List ℕ) (c i : ℕ) where
  pub kept_here : Rising kept → i < length kept → get_or kept i 0 ≡ c → Bound kept c i
  kept_here r h e =
      let most = below_upto kept c i r h (omega arith) in
      by_leb (Bound kept c i) i 0
      (λ (z : i ≤ 0). record { is = omega arith; within = omega arith })
      (λ (z : 0 < i).
      let least = below_past kept c (i - 1) r (omega arith) (omega (arith, rising_lt r (i - 1) i (omega arith) h)) in
      record { is = omega arith; within = omega arith })

  pub missing_here : Rising kept → Bound kept c i → i < length kept → not (eqb (get_or kept i 0) c) ≡ not (holds kept c)
  missing_here r b h = ap not (member_here kept c i r b h)

  pub missing_nowhere : Rising kept → Bound kept c i → length kept ≤ i → true ≡ not (holds kept c)
  missing_nowhere r b h = ap not (member_nowhere kept c i r b h)

pub ruleset missing = (missing_here, missing_nowhere)
