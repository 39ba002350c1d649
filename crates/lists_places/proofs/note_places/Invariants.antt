use lib.ListN.{length}
use Rattle.laws.proofs.StoringLaws.{Storing}
use Rattle.lists_places.specs.Places.{place_of}
use Rattle.lists_places.proofs.note_places.Given as goal

abbrev pub invariant-loop-b : goal.invariant-loop-b
invariant-loop-b l = Storing (place_of l.points) (length l.initial.places) l.initial.places l.places l.b
