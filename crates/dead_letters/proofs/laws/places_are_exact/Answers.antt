use Rattle.dead_letters.proofs.LetterPlaces.{places_are_exact}
use Rattle.dead_letters.proofs.laws.places_are_exact.Goals as goal

pub returns : goal.returns
returns c = places_are_exact
