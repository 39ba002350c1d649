-- The code makes the tests of the definition, in its order.
use mathlib.Core.Path.{◌≡◌, refl}
use Prim.Native.Nat.{◌<◌, ◌-◌, ◌≤◌}
use native.Mathlib.Omega.{arith}
use Rattle.std.proofs.lemmas.Grind.{common_steps}
use Rattle.laws.proofs.ChoiceLaws.{if_lt_lem, else_lt, if_eq_lem, else_eq}
use Rattle.heads_lookup.specs.Lookup.{in_array}
use Rattle.heads_lookup_at.proofs.in_array.Goals as goal

pub returns-in_err-index : goal.returns-in_err-index
unfolding in_array
returns-in_err-index c =
    let h : c.args.place < c.args.t.segs = grind (arith, common_steps) in
    if_lt_lem _ _ _ _ h (cc)

pub returns-then-t-index : goal.returns-then-t-index
unfolding in_array
returns-then-t-index c =
    let h : c.args.t.segs ≤ c.args.place = grind (arith, common_steps) in
    let k : c.in_ok-index.index ≡ c.args.place - c.args.t.segs = grind (arith, common_steps) in
    else_lt _ _ _ _ h (else_lt _ _ _ _ (omega arith) refl)

pub returns-then-entry-eq0 : goal.returns-then-entry-eq0
unfolding in_array
returns-then-entry-eq0 c =
    let h : c.args.t.segs ≤ c.args.place = grind (arith, common_steps) in
    let k : c.in_ok-index.index ≡ c.args.place - c.args.t.segs = grind (arith, common_steps) in
    else_lt _ _ _ _ h (rw (← k, ← c.u16_at-entry.ensures.is) (if_lt_lem _ _ _ _ (omega arith) (if_eq_lem _ _ _ _ (omega arith) refl)))

pub returns : goal.returns
unfolding in_array
returns c =
    let h : c.args.t.segs ≤ c.args.place = grind (arith, common_steps) in
    let k : c.in_ok-index.index ≡ c.args.place - c.args.t.segs = grind (arith, common_steps) in
    else_lt _ _ _ _ h (rw (← k, ← c.u16_at-entry.ensures.is) (if_lt_lem _ _ _ _ (omega arith) (else_eq _ _ _ _ c.if-entry-eq0.false refl)))
