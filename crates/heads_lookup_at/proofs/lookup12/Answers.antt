-- A readable format 12 has the room that its search asks for; every other kind gives nothing.
use mathlib.Core.Path.{sym, ◌∙◌}
use Rattle.source.proofs.KindLaws.{room12}
use Rattle.heads_lookup.proofs.LookupLaws.{by_kind12, by_other12}
use Rattle.heads_lookup_at.proofs.lookup12.Goals as goal

pub find12_in-requires : goal.find12_in-requires
find12_in-requires c = room12 _ _ (sym c.kind_at.ensures ∙ c.in-Format12.is)

pub returns-in-Format12 : goal.returns-in-Format12
returns-in-Format12 c = search by_kind12

pub returns-in_default : goal.returns-in_default
returns-in_default c = by_other12 _ _ _ _ c.kind_at.ensures c.in_default.not-Format12
