use Rattle.dead_letters.proofs.OpeningRun.{kept_held}
use Rattle.dead_letters.proofs.laws.an_opening_keeps_what_is_held.Goals as goal

pub returns : goal.returns
returns g c = λ folder h old new run holds. kept_held g.S.Store g.met.S.Store.images_tell folder h old new run holds
