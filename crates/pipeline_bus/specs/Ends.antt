-- What went through the ends of a link.
use Rattle.std.specs.Prelude.{◌≡◌, ℕ, ◌⊎◌, Bool, true, false, List, [], ◌∷◌, ◌++◌, drop, length, Option, Some, None}
use Rattle.io_traits.specs.Counts.{one_more}
use Rattle.rtrb.specs.Ring.{IsPair, SameProducer, SameConsumer}
use Rattle.pipeline_bus.specs.Counted.{ring, misses, pushed, popped}
use Rattle.pipeline_bus.specs.Parcels.{with_events, taken_of, HasNextNumber}
use Rattle.pipeline_bus.specs.declared.parcel.Parcel.{Parcel}
use Rattle.pipeline_bus.specs.declared.parcel.Answer.{Answer}
use Rattle.pipeline_bus.specs.declared.link.LinkSender.{LinkSender}
use Rattle.pipeline_bus.specs.declared.link.LinkTaker.{LinkTaker}

-- the parcels that were sent, the answers that were heard, and how many calls of each kind found no slot or no answer
pub record Sending : Type 0 where
  pub sent : List Parcel
  pub heard : List Answer
  pub push_misses : ℕ
  pub answer_misses : ℕ

-- the parcels that were taken, those that wait in the taker's own room, the answers that were given, and the misses
pub record Taking : Type 0 where
  pub taken : List Parcel
  pub room : List Parcel
  pub given : List Answer
  pub take_misses : ℕ
  pub tell_misses : ℕ

abbrev pub sending : LinkSender → Sending
sending s = record { sent = pushed s.parcels; heard = popped s.answers; push_misses = misses s.parcels; answer_misses = misses s.answers }

abbrev pub taking : LinkTaker → Taking
taking t = record { taken = taken_of (popped t.parcels) t.room; room = t.room; given = pushed t.answers; take_misses = misses t.parcels; tell_misses = misses t.answers }

abbrev pub no_sending : Sending
no_sending = record { sent = []; heard = []; push_misses = 0; answer_misses = 0 }

abbrev pub no_taking : Taking
no_taking = record { taken = []; room = []; given = []; take_misses = 0; tell_misses = 0 }

-- behind a push: the parcel was sent, or came back and one more push missed
abbrev pub pushed_as : Option Parcel → Parcel → Sending → Sending
pushed_as None p s = record s { sent = s.sent ++ p ∷ [] }
pushed_as (Some back) p s = record s { push_misses = one_more s.push_misses }

-- behind a look for an answer
abbrev pub heard_as : Option Answer → Sending → Sending
heard_as (Some a) s = record s { heard = s.heard ++ a ∷ [] }
heard_as None s = record s { answer_misses = one_more s.answer_misses }

-- behind a take: the parcel that came is no longer in the room, if it was there
abbrev pub taken_as : Option Parcel → Taking → Taking
taken_as (Some p) t = record t { taken = t.taken ++ p ∷ []; room = drop 1 t.room }
taken_as None t = record t { take_misses = one_more t.take_misses }

-- the parcel is the next, and was taken
abbrev pub TakesOne : Taking → Taking → Parcel → Type 0
TakesOne old new p = (new ≡ taken_as (Some p) old) × HasNextNumber old.taken p

-- one more parcel waits in the room, or the ring showed none
abbrev pub ShowsOne : Bool → Taking → Taking → Type 0
ShowsOne true old new = (p : Parcel) × (new ≡ record old { room = old.room ++ p ∷ [] })
ShowsOne false old new = new ≡ taken_as None old

-- behind an answer that was told, or came back
abbrev pub told_as : Option Answer → Answer → Taking → Taking
told_as None a t = record t { given = t.given ++ a ∷ [] }
told_as (Some back) a t = record t { tell_misses = one_more t.tell_misses }

-- so many parcels with events wait in the room, to which more were moved: until it had sixteen, or the ring showed no more
pub record Waits (count : ℕ) (old new : Taking) : Type 0 where
  pub more : List Parcel
  pub moved : (new ≡ record old { room = old.room ++ more; take_misses = new.take_misses })
  pub counted : count ≡ with_events new.room
  pub shown : ((length new.room ≡ 16) × (new.take_misses ≡ old.take_misses)) ⊎ (new.take_misses ≡ one_more old.take_misses)

-- the two ends of one link
pub record AreLinked (s : LinkSender) (t : LinkTaker) : Type 0 where
  pub parcels : IsPair (ring s.parcels) (ring t.parcels)
  pub answers : IsPair (ring t.answers) (ring s.answers)

-- the same end of the same link, whatever went through it
pub record IsSameSender (old new : LinkSender) : Type 0 where
  pub parcels : SameProducer (ring old.parcels) (ring new.parcels)
  pub answers : SameConsumer (ring old.answers) (ring new.answers)

pub record IsSameTaker (old new : LinkTaker) : Type 0 where
  pub parcels : SameConsumer (ring old.parcels) (ring new.parcels)
  pub answers : SameProducer (ring old.answers) (ring new.answers)

-- nothing is lost, repeated or made up on the way
pub record InOrder (s : Sending) (t : Taking) : Type 0 where
  pub on_the_way : List Parcel
  pub parcels : s.sent ≡ (t.taken ++ t.room) ++ on_the_way
  pub on_the_way_back : List Answer
  pub answers : t.given ≡ s.heard ++ on_the_way_back
