-- What pipelines send to each other, by what each of the two did and by the end of the link that takes.
use Rattle.std.specs.Prelude.{◌≡◌, ◌≢◌, ◌⊎◌, ◌≤◌, ◌==◌, ◌&&◌, ℕ, Bool, true, false, List, [], ◌∷◌, ◌++◌, length, flat_map, Option, Some, None, if◌then◌else◌, ⊤}
use Rattle.event_tree.specs.Events.{Ev}
use Rattle.config_tree.specs.declared.tree.Config.{Config}
use Rattle.config_tree.specs.declared.tree.Plugin.{Plugin}
use Rattle.foreign_parts.specs.declared.place.Place.TheVariants as place
use Rattle.pipeline_bus.specs.Ends.{Sending, Taking, InOrder, no_sending}
use Rattle.pipeline_bus.specs.Parcels.{is_last}
use Rattle.pipeline_bus.specs.declared.parcel.Answer.{Answer}
use Rattle.pipeline_bus.specs.declared.parcel.Heard.{Heard}
use Rattle.pipeline_bus.specs.declared.parcel.Heard.TheVariants.{Assured, NotListening}
use Rattle.pipeline_bus.specs.declared.parcel.Parcel.{Parcel}
use Rattle.event_flow.specs.Meaning.{Makes, Due}
use Rattle.event_flow.specs.Meaning as due
use Rattle.event_flow.specs.Places.{Draws}
use Rattle.queue_files.specs.Found.{Found}
use Rattle.history_book.specs.Deeds.{Deed, Tell, Send, DeedOf, Mail, sent_on, heard_on, told_of, told_by, deeds_by, mail_of, AreTold, IsNextFor, LegalBehind}
use Rattle.history_book.specs.Entries.{Entry, ParcelAt, Accept, Adopt}
use Rattle.history_book.specs.Inputs.{Input, IsInput, AreInputs, closed}
use Rattle.history_book.specs.Laws.{WasDelivered}
use Rattle.history_book.specs.Legal.{Legal, Fits, IsFound}
use Rattle.history_book.specs.Lists.{IsIn}
use Rattle.history_book.specs.States.{Plan, Written, Out, State, start, written, next, after}
use Rattle.history_book.specs.Steps.{NoOpening, steps_of}

-- what a statement of an input says: the address on which it listens, if it does, and what its settings make of an event that comes there
pub record Listening : Type 0 where
  pub address : Plugin → Option (List ℕ)
  pub applies : Plugin → Ev → Ev

-- A link by which a pipeline, or something outside of all of them, sends to an address where another pipeline, or the same, listens. Its end has a place among those
-- that the listener got since it was last opened. Of the parcels that were taken there, and the answers that were given, these are the listener's own: before and
-- behind it the end may be another one's. The parcels with events that are lost lay in its ring, not taken, when an adoption closed the input that listened there.
pub record Link : Type 0 where
  pub from : Option ℕ
  pub to : ℕ
  pub address : List ℕ
  pub place : ℕ
  pub takes : Taking
  pub taken : List Parcel
  pub given : List Answer
  pub lost : List Parcel

-- these are some of those, one behind the other
abbrev pub IsPart : {X : Type 0} → List X → List X → Type 0
IsPart {X} part whole = (before : List X) × (behind : List X) × (whole ≡ before ++ part ++ behind)

-- ---- rows that are made of parcels

abbrev pub is_same : ParcelAt → Option ParcelAt → Bool
is_same at None = false
is_same at (Some other) = (at.place == other.place) && (at.number == other.number)

-- the row of an event that was accepted from this parcel
abbrev pub row_of : ParcelAt → State → Entry → List Written
row_of at s (Accept input parcel number event) = if is_same at parcel then written s input number event ∷ [] else []
row_of at s e = []

-- all of them since the pipeline was last opened
abbrev pub rows_of : Makes → ParcelAt → List Entry → List Written
rows_of makes at told = flat_map (λ step. row_of at step.before step.entry) (steps_of makes told)

module _ (listening : Listening) (address : List ℕ) where
  -- the row is what the settings of its input, which listens on the address, make of this event
  pub record IsMadeOf (w : Written) (e : Ev) : Type 0 where
    pub input : Input
    pub is_input : IsInput w.under w.input input
    pub listens : listening.address input.statement ≡ Some address
    pub event_is : w.event ≡ listening.applies input.statement e

  -- the rows are what is made of the first of these events, in order
  abbrev pub AreMadeOf : List Written → List Ev → Type 0
  AreMadeOf [] es = ⊤
  AreMadeOf (w ∷ ws) [] = ⊥
  AreMadeOf (w ∷ ws) (e ∷ es) = IsMadeOf w e × AreMadeOf ws es

  -- an input that listened on the address was open among the first of these, and is closed among the second
  pub record ClosesIn (old new : List Input) : Type 0 where
    pub input : Input
    pub was : IsIn input old
    pub was_open : input.is_open ≡ true
    pub listened : listening.address input.statement ≡ Some address
    pub is_closed : IsIn (closed input) new

  -- so it is with the inputs by these configurations
  pub record Closes (before behind : List Plan) : Type 0 where
    pub old : List Input
    pub were : AreInputs before old
    pub new : List Input
    pub are : AreInputs behind new
    pub closes : ClosesIn old new

-- rows with numbers up to this
abbrev pub AreSettled : ℕ → List Written → Type 0
AreSettled front [] = ⊤
AreSettled front (w ∷ ws) = (w.number ≤ front) × AreSettled front ws

-- ---- the pipeline that listens

module _ (makes : Makes) (listening : Listening) (told : List Entry) (l : Link) where
  abbrev pub rows_from : ℕ → List Written
  rows_from number = rows_of makes (record { place = l.place; number = number }) told

  -- all events of this parcel stand in rows that are settled
  pub record IsSettled (number : ℕ) : Type 0 where
    pub parcel : Parcel
    pub is_taken : IsIn parcel l.taken
    pub number_is : parcel.number ≡ number
    pub some : is_last parcel ≡ false
    pub whole : length (rows_from number) ≡ length parcel.events
    pub settled : AreSettled (after makes start told).front (rows_from number)

  -- no parcel of this number was taken, and no event of it was accepted
  abbrev pub IsRefused : ℕ → Type 0
  IsRefused number = ((p : Parcel) → IsIn p l.taken → is_last p ≡ false → p.number ≡ number → ⊥) × (rows_from number ≡ [])

  -- that is assured of no other; and of no other it is heard that nobody listens
  abbrev pub MayAnswer : ℕ → Heard → Type 0
  MayAnswer number Assured = IsSettled number
  MayAnswer number NotListening = IsRefused number

  -- What the pipeline that listens may have taken, told and answered: rows that name a parcel of the link are what is made of its first events, it took the
  -- parcel, and its answers are true.
  pub record TakerSound : Type 0 where
    pub made : (p : Parcel) → IsIn p l.taken → is_last p ≡ false → AreMadeOf listening l.address (rows_from p.number) p.events
    pub known : (number : ℕ) → rows_from number ≢ [] → (p : Parcel) × IsIn p l.taken × (p.number ≡ number) × (is_last p ≡ false)
    pub answers : (a : Answer) → IsIn a l.given → MayAnswer a.number a.answer

-- ---- the pipeline that sends

-- since a pipeline was last opened, there was a moment at which this delivery was the next that was due of a batch
pub record WasNext (makes : Makes) (address : List ℕ) (told : List Entry) (events : List Ev) : Type 0 where
  pub before : List Entry
  pub rest : List Entry
  pub parts : told ≡ before ++ rest
  pub unopened : NoOpening rest
  pub out : Out
  pub is_out : IsIn out (after makes start before).out
  pub id : List ℕ
  pub left : List Due
  pub next : out.left ≡ due.Events id (place.Address address) events ∷ left

abbrev pub assured : ℕ → Answer
assured number = record { number = number; answer = Assured }

abbrev pub not_listening : ℕ → Answer
not_listening number = record { number = number; answer = NotListening }

-- the parcels that a pipeline sent to an address, and the answers that it heard from there
abbrev pub sending_on : List ℕ → Mail → Sending
sending_on address mail = record no_sending { sent = sent_on address mail.sent; heard = heard_on address mail.heard }

module _ (makes : Makes) (listening : Listening) (done : List DeedOf) (k : ℕ) (l : Link) where
  -- Behind the moment at which the parcel of this number was sent, a configuration was adopted that closed the listener of its address: since both pipelines
  -- were last opened.
  pub record WasLost (number : ℕ) : Type 0 where
    pub before : List DeedOf
    pub parcel : Parcel
    pub between : List DeedOf
    pub generation : ℕ
    pub config : Config
    pub draws : Draws
    pub rest : List DeedOf
    pub parts : done ≡ (before ++ record { line = k; deed = Send l.address parcel } ∷ between) ++ record { line = l.to; deed = Tell (Adopt generation config draws) } ∷ rest
    pub number_is : parcel.number ≡ number
    pub some : is_last parcel ≡ false
    pub sender_unopened : NoOpening (told_by k (between ++ record { line = l.to; deed = Tell (Adopt generation config draws) } ∷ rest))
    pub listener_unopened : NoOpening (told_by l.to rest)
    pub closes : (let s = after makes start (told_by l.to (before ++ record { line = k; deed = Send l.address parcel } ∷ between)) in
        Closes listening l.address s.plans (next makes s (Adopt generation config draws)).plans)

  -- Nothing is lost, repeated or made up on the way; and it is heard that nobody listens only of a parcel whose address lost its listener behind its sending.
  pub record IsSentBy : Type 0 where
    pub order : InOrder (sending_on l.address (mail_of k done)) l.takes
    pub lost : (number : ℕ) → IsIn (not_listening number) l.given → WasLost number

-- Since the pipeline that listens was last opened, a configuration was adopted that closed the listener of the link while the parcel of this number lay in the ring.
pub record LostListener (makes : Makes) (listening : Listening) (l : Link) (told : List Entry) (number : ℕ) : Type 0 where
  pub parcel : Parcel
  pub lay_there : IsIn parcel l.lost
  pub number_is : parcel.number ≡ number
  pub before : List Entry
  pub generation : ℕ
  pub config : Config
  pub draws : Draws
  pub rest : List Entry
  pub parts : told ≡ before ++ Adopt generation config draws ∷ rest
  pub unopened : NoOpening rest
  pub closes : Closes listening l.address (after makes start before).plans (next makes (after makes start before) (Adopt generation config draws)).plans

-- ---- both

module _ (makes : Makes) (listening : Listening) (done : List DeedOf) (l : Link) where
  -- Of what sends from outside nothing more is said here than that a listener answers that nobody listens only to parcels that lay in the ring when it was closed.
  abbrev pub IsSentFrom : Option ℕ → Type 0
  IsSentFrom None = (number : ℕ) → IsIn (not_listening number) l.given → LostListener makes listening l (told_by l.to done) number
  IsSentFrom (Some k) = IsSentBy makes listening done k l

  -- what both did and the taker's end agree
  pub record LinkSound : Type 0 where
    pub sender : IsSentFrom l.from
    pub taker : TakerSound makes listening (told_by l.to done) l
    pub taken : IsPart l.taken l.takes.taken
    pub given : IsPart l.given l.takes.given

-- its sender heard of the parcel of this number, which had these events, from this listener, that they stand in its queue
pub record WasAssured (mail : Mail) (l : Link) (number : ℕ) (events : List Ev) : Type 0 where
  pub parcel : Parcel
  pub sent : IsIn parcel (sent_on l.address mail.sent)
  pub number_is : parcel.number ≡ number
  pub events_are : parcel.events ≡ events
  pub heard : IsIn (assured number) (heard_on l.address mail.heard)
  pub given : IsIn (assured number) l.given

-- each of these rows stands in some sense
abbrev pub EachStands : (Written → Type 0) → List Written → Type 0
EachStands stands [] = ⊤
EachStands stands (w ∷ ws) = stands w × EachStands stands ws

-- rows are made of all these events, and each stands
pub record AllArrived (listening : Listening) (address : List ℕ) (events : List Ev) (stands : Written → Type 0) : Type 0 where
  pub rows : List Written
  pub made : AreMadeOf listening address rows events
  pub whole : length rows ≡ length events
  pub stand : EachStands stands rows

-- the row was written and is settled
abbrev pub IsSettledRow : Makes → List Entry → Written → Type 0
IsSettledRow makes told w = IsIn w (after makes start told).rows × (w.number ≤ (after makes start told).front)

-- so it is, and the row is found; or all was told of it that was due
abbrev pub StandsThere : Makes → List Entry → Found → Written → Type 0
StandsThere makes told found w = IsSettledRow makes told w × (IsFound found.rows w ⊎ WasDelivered makes start told w)

-- The events of a parcel of which its sender heard that they stand with the listener arrived there: whatever that told since, and in each folder that a stop
-- leaves of it that fits what it told.
abbrev pub AssuredArrived : Type 0
AssuredArrived =
    (makes : Makes) (listening : Listening) (first since : List DeedOf) (l : Link) (k number : ℕ) (events : List Ev) → AreTold first
    → LegalBehind makes (told_by k first) (deeds_by k since) → l.from ≡ Some k
    → LinkSound makes listening (first ++ since) l → WasAssured (mail_of k (first ++ since)) l number events
    → (more : List Entry) (found : Found) → Legal makes start (told_by l.to (first ++ since) ++ more) → Fits (after makes start (told_by l.to (first ++ since) ++ more)) found
    → AllArrived listening l.address events (StandsThere makes (told_by l.to (first ++ since) ++ more) found)

-- since the pipeline was last opened, these events were sent to the address, when they were the next delivery to there that was due of a batch
pub record WasSent (makes : Makes) (address : List ℕ) (deeds : List Deed) (events : List Ev) : Type 0 where
  pub before : List Deed
  pub parcel : Parcel
  pub rest : List Deed
  pub parts : deeds ≡ before ++ Send address parcel ∷ rest
  pub unopened : NoOpening (told_of rest)
  pub events_are : parcel.events ≡ events
  pub next : IsNextFor (after makes start (told_of before)) address events

-- A row that was accepted from a parcel is made of an event that was due to the address of its sender.
pub record CameFrom (makes : Makes) (listening : Listening) (address : List ℕ) (deeds : List Deed) (w : Written) : Type 0 where
  pub events : List Ev
  pub sent : WasSent makes address deeds events
  pub event : Ev
  pub has : IsIn event events
  pub made : IsMadeOf listening address w event

-- Nothing else arrives.
abbrev pub ArrivalsWereDue : Type 0
ArrivalsWereDue =
    (makes : Makes) (listening : Listening) (first since : List DeedOf) (l : Link) (k number : ℕ) (w : Written) → AreTold first
    → LegalBehind makes (told_by k first) (deeds_by k since) → l.from ≡ Some k → LinkSound makes listening (first ++ since) l
    → IsIn w (rows_from makes listening (told_by l.to (first ++ since)) l number) → CameFrom makes listening l.address (deeds_by k (first ++ since)) w
