-- What two looks tell is enough to halve between them.
use Rattle.lists_places.proofs.PlacesLaws.{within_halving}
use Rattle.lists_places.proofs.count_within.Goals as goal

pub halve-requires-clause-halving : goal.halve-requires-clause-halving
halve-requires-clause-halving c = search within_halving
