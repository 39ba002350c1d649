-- What is left to note, noted from here, gives the whole.
use Rattle.std.proofs.Common.{rules}
use Rattle.lists_places.proofs.PlacesLaws.{noting}
use Rattle.lists_places.proofs.note_places.Goals as goal

pub loop-b-init : goal.loop-b-init
loop-b-init c = search (rules, noting)

pub loop-b-preserved : goal.loop-b-preserved
loop-b-preserved c = search (rules, noting)

pub returns : goal.returns
returns c = search (rules, noting)
