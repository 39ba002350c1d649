-- The code makes the tests of the definition, in its order.
use mathlib.Core.Path.{◌≡◌, ◌∙◌}
use Prim.Native.Nat.{◌<◌, ◌+◌, ◌-◌, ◌≤◌}
use native.Mathlib.Omega.{arith}
use Rattle.std.proofs.lemmas.Grind.{common_steps}
use Rattle.laws.proofs.ChoiceLaws.{if_lt_lem, else_lt}
use Rattle.heads_lookup.specs.Lookup.{in_group}
use Rattle.heads_lookup.proofs.LookupLaws.{at_most}
use Rattle.heads_lookup.proofs.in_group.Goals as goal

pub returns-in_err-checked_sub : goal.returns-in_err-checked_sub
unfolding in_group
returns-in_err-checked_sub c =
    let h : c.args.c < c.u32_at-start_char_code.result = grind (arith, common_steps) in
    if_lt_lem _ _ _ _ (omega arith) (cc)

pub returns-in_err-glyph : goal.returns-in_err-glyph
unfolding in_group
returns-in_err-glyph c =
    let h : c.u32_at-start_char_code.result ≤ c.args.c = grind (arith, common_steps) in
    let k : 65535 < c.u32_at-start_glyph_id.result + c.in_ok-checked_sub.field-0 = grind (arith, common_steps) in
    else_lt _ _ _ _ (omega arith) (if_lt_lem _ _ _ _ (omega arith) (cc))

pub returns : goal.returns
unfolding in_group
returns c =
    let h : c.u32_at-start_char_code.result ≤ c.args.c = grind (arith, common_steps) in
    let k : c.in_ok-glyph.glyph ≡ c.u32_at-start_glyph_id.result + (c.args.c - c.u32_at-start_char_code.result) = grind (arith, common_steps) in
    else_lt _ _ _ _ (omega arith) (rw (← c.u32_at-start_char_code.ensures.is, ← c.u32_at-start_glyph_id.ensures.is, ← k) (c.then_some.ensures ∙ at_most _ _))
