-- What was told since a pipeline was last opened.
use Rattle.std.proofs.Common.{◌≡◌, List, [], ◌∷◌, ◌++◌, refl}
use Rattle.event_flow.specs.Meaning.{Makes}
use Rattle.history_book.specs.Entries.{Entry, Accept, Mark, Assure, Read, Back, Shed, Deliver, Letters, Ack, Purge, Adopt, Opened}
use Rattle.history_book.specs.States.{State, next, after}
use Rattle.history_book.specs.Steps.{Step, one_more, NoOpening, steps}

pub rest_unopened : (e : Entry) (told : List Entry) → NoOpening (e ∷ told) → NoOpening told
rest_unopened (Accept input parcel number event) told none = none
rest_unopened (Mark front) told none = none
rest_unopened (Assure input front) told none = none
rest_unopened (Read batch generation numbers) told none = none
rest_unopened (Back batch verdicts) told none = none
rest_unopened (Shed batch older newer) told none = none
rest_unopened (Letters batch letters) told none = none
rest_unopened (Ack batch) told none = none
rest_unopened (Purge page) told none = none
rest_unopened (Adopt generation config draws) told none = none
rest_unopened (Deliver batch at events fates) told none = none
rest_unopened (Opened rows limit policy) told none = absurd none

module _ (makes : Makes) where
  pub steps_both : (s : State) (told more : List Entry) (old : List Step) → steps makes s old (told ++ more) ≡ steps makes (after makes s told) (steps makes s old told) more
  steps_both s [] more old = refl
  steps_both s (e ∷ told) more old = steps_both (next makes s e) told more (one_more old s e)
