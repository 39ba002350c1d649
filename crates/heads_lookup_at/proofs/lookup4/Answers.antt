-- A readable format 4 has the room that its search asks for; every other kind gives nothing.
use mathlib.Core.Path.{sym, ◌∙◌}
use Rattle.source.proofs.KindLaws.{room4}
use Rattle.heads_lookup.proofs.LookupLaws.{by_kind4, by_other4}
use Rattle.heads_lookup_at.proofs.lookup4.Goals as goal

pub find4_in-requires : goal.find4_in-requires
find4_in-requires c = room4 _ _ (λ i. (c.type_inv.s i).fits) (sym c.kind_at.ensures ∙ c.in-Format4.is)

pub returns-in-Format4 : goal.returns-in-Format4
returns-in-Format4 c = search by_kind4

pub returns-in_default : goal.returns-in_default
returns-in_default c = by_other4 _ _ _ _ c.kind_at.ensures c.in_default.not-Format4
