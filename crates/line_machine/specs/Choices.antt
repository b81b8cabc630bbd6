-- What is chosen of a line's steps, and when a turn ends.
use Rattle.std.specs.Prelude.{◌≡◌, ◌≢◌, ◌⊎◌, ◌≤◌, ◌<◌, ◌+◌, ℕ, suc, Bool, true, false, List, [], ◌∷◌, ◌++◌, length, Option, Some, None, Ok, if◌then◌else◌, ⊤}
use Rattle.event_flow.specs.Meaning.{Makes, Due}
use Rattle.queue_files.specs.Kept.{Page}
use Rattle.queue_files.specs.Steps.{IsSpent}
use Rattle.history_book.specs.Contents.{Bytes}
use Rattle.history_book.specs.Deeds.{Deed, told_of}
use Rattle.history_book.specs.Entries.{Entry}
use Rattle.history_book.specs.Links.{Listening}
use Rattle.history_book.specs.Lists.{IsIn}
use Rattle.history_book.specs.Sound.{Places}
use Rattle.history_book.specs.States.{is_among}
use Rattle.line_machine.specs.declared.calls.Accepted.TheVariants as accepted
use Rattle.line_machine.specs.declared.calls.Act.{Act}
use Rattle.line_machine.specs.declared.calls.Act.TheVariants as act
use Rattle.line_machine.specs.declared.calls.Call.{Call}
use Rattle.line_machine.specs.declared.calls.Call.TheVariants as call
use Rattle.line_machine.specs.declared.calls.Delivered.TheVariants as delivered
use Rattle.line_machine.specs.declared.calls.ReadOut.TheVariants as read
use Rattle.line_machine.specs.Answers.{Did}
use Rattle.line_machine.specs.Effects.{Effect}
use Rattle.line_machine.specs.Ends.{TakerView, taker_at, IsServed, IsPartlyAccepted, MayAssure, MayRefuse}
use Rattle.line_machine.specs.Finds.{HasInput, IsAway, IsHome, IsAtEnd, ends_served}
use Rattle.line_machine.specs.Lines.{LineStands}
use Rattle.line_machine.specs.Resting.{IsAtRest, IsAtStop, IsDone, IsStopped}
use Rattle.line_machine.specs.Unchanged.{CanDo}
use Rattle.line_machine.specs.Views.{Batch, Incoming, RowAt, InputView, LineView}
use Rattle.line_machine.specs.Summaries.{Given, Refused, none_refused, batches_of, inputs_of, places_of, summary_of, given_now}
use Rattle.line_machine.specs.Turns.{next_of}

module _ (listening : Listening) {places : Places} where
  abbrev pub choice : Given → Refused → (showing : List ℕ) → LineView places → Option Act
  choice g r showing i = next_of (summary_of listening g r showing i)

-- ---- what is chosen

-- the act was refused
abbrev pub IsRefused : Refused → Act → Type 0
IsRefused r (act.Accept n) = IsIn n r.accepts
IsRefused r act.Read = r.read ≡ true
IsRefused r act.Take = r.take ≡ true
IsRefused r (act.Deliver n) = IsIn n r.deliveries
IsRefused r (act.Answer place) = IsIn place r.answers
IsRefused r a = ⊥

-- a row of the input is settled of which it wasn't told
pub record HasSettled {places : Places} (i : LineView places) (v : InputView) : Type 0 where
  pub front : ℕ
  pub marked : i.mark ≡ Some front
  pub row : RowAt
  pub has : IsIn row v.rows
  pub settled : row.number ≤ front

-- none of its batches is out, or fewer are than twice as many as it has workers
abbrev pub HasFewOut : {places : Places} → LineView places → Type 0
HasFewOut i = (i.batches ≡ []) ⊎ (length i.batches < i.workers + i.workers)

-- a parcel shows at an end of the input that is served
pub record ShowsParcel {places : Places} (showing : List ℕ) (i : LineView places) (v : InputView) : Type 0 where
  pub taker : TakerView
  pub has : IsIn taker i.takers
  pub input_is : taker.input ≡ v.number
  pub served : IsServed (ends_served i) taker.place
  pub shows : IsIn taker.place showing

-- at no end that listens, and is served, a parcel shows
abbrev pub NoneShows : {places : Places} → List ℕ → LineView places → Type 0
NoneShows showing i = (t : TakerView) → IsIn t i.takers → t.listens ≡ true → IsServed (ends_served i) t.place → IsIn t.place showing → ⊥

module _ (listening : Listening) {places : Places} where
  -- the input holds an event
  abbrev pub HoldsEvent : LineView places → InputView → Type 0
  HoldsEvent i v = ((listening.address v.statement ≡ None) × (v.is_open ≡ true) × (i.stopped ≡ false) × (v.held ≢ [])) ⊎ IsPartlyAccepted (ends_served i) v.number i.takers

  -- Where the line stands there is something to do for the act: an event that is held, or an open input that isn't at its end or at which a parcel shows; a row that is
  -- unread, and few batches out; a job that is out; a delivery that is left, or none; something that came since the last mark, or enough of it; a row that is settled; a page
  -- that is spent; an answer that is due.
  abbrev pub HasWork : (showing : List ℕ) → LineView places → Act → Type 0
  HasWork showing i (act.Accept n) = (h : HasInput i n) × (HoldsEvent i h.input ⊎ ((h.input.is_open ≡ true) × ((IsAtEnd listening i h.input → ⊥) ⊎ ShowsParcel showing i h.input)))
  HasWork showing i act.Read = (i.kept ++ i.unread ≢ []) × HasFewOut i
  HasWork showing i act.Take = (n : ℕ) × IsAway i n
  HasWork showing i (act.Deliver n) = (d : Due) × (left : List Due) × IsHome i n (d ∷ left)
  HasWork showing i (act.Acknowledge n) = IsHome i n []
  HasWork showing i act.Mark = (i.due_writes ≤ i.written) ⊎ (i.due_acknowledged ≤ i.acknowledged) ⊎ (i.uncovered ≡ true)
  HasWork showing i (act.Assure n) = (h : HasInput i n) × (h.input.is_open ≡ true) × HasSettled i h.input
  HasWork showing i act.Purge = (p : Page) × IsIn p i.holds.queue.tails × IsSpent p
  HasWork showing i (act.Answer place) = (t : TakerView) × (taker_at place i.takers ≡ Some t) × (MayAssure i.mark t ⊎ MayRefuse t)

module _ (listening : Listening) (places : Places) where
  -- it can be asked for
  abbrev pub ChoicesCanBeDone : Type 0
  ChoicesCanBeDone = (g : Given) (r : Refused) (showing : List ℕ) (i : LineView places) (a : Act) → choice listening g r showing i ≡ Some a → CanDo i a

  -- and it wasn't refused in this turn
  abbrev pub ChoicesAreNew : Type 0
  ChoicesAreNew = (g : Given) (r : Refused) (showing : List ℕ) (i : LineView places) (a : Act) → choice listening g r showing i ≡ Some a → IsRefused r a → ⊥

-- ---- when nothing is chosen

-- the result of no batch was lost
abbrev pub NoneLost : {places : Places} → LineView places → Type 0
NoneLost i = (b : Batch) → IsIn b i.batches → b.verdicts ≡ None → b.kit ≡ None → ⊥

-- It wasn't told to stop and is at rest, or it was and has come to an end.
abbrev pub HasNothingToDo : Listening → {places : Places} → LineView places → Type 0
HasNothingToDo listening i = IsAtRest listening i ⊎ IsAtStop listening i

-- a line that was told to stop goes on to take parcels only where it drains
abbrev pub GoesOnDraining : {places : Places} → LineView places → Type 0
GoesOnDraining i = i.drains ≡ false → i.going ≡ []

module _ (makes : Makes) (listening : Listening) (bytes : Bytes) (places : Places) where
  -- A step is chosen only where there is something to do for it.
  abbrev pub ChoicesHaveWork : Type 0
  ChoicesHaveWork =
      (earlier : List Entry) (deeds : List Deed) (came : ℕ → List Incoming) (g : Given) (r : Refused) (showing : List ℕ) (i : LineView places) (a : Act) → LineStands makes listening bytes places earlier deeds came i
      → choice listening g r showing i ≡ Some a → HasWork listening showing i a

  -- Where nothing was refused and nothing is chosen, the line has nothing to do, and no parcel shows, unless a result was lost.
  abbrev pub NoneIsRest : Type 0
  NoneIsRest =
      (earlier : List Entry) (deeds : List Deed) (came : ℕ → List Incoming) (g : Given) (showing : List ℕ) (i : LineView places) → LineStands makes listening bytes places earlier deeds came i → NoneLost i
      → choice listening g none_refused showing i ≡ None → HasNothingToDo listening i × NoneShows showing i

  -- So it is done, or stopped.
  abbrev pub NoneIsDone : Type 0
  NoneIsDone =
      (earlier : List Entry) (deeds : List Deed) (came : ℕ → List Incoming) (g : Given) (showing : List ℕ) (i : LineView places) → LineStands makes listening bytes places earlier deeds came i → NoneLost i
      → choice listening g none_refused showing i ≡ None
      → ((i.stopped ≡ false) × IsDone makes listening bytes places (told_of deeds) i) ⊎ ((i.stopped ≡ true) × IsStopped makes listening bytes places (told_of deeds) i)

  -- Where it has nothing to do, and no parcel shows, nothing is chosen, whatever was refused.
  abbrev pub RestHasNone : Type 0
  RestHasNone =
      (earlier : List Entry) (deeds : List Deed) (came : ℕ → List Incoming) (g : Given) (r : Refused) (showing : List ℕ) (i : LineView places) → LineStands makes listening bytes places earlier deeds came i → GoesOnDraining i
      → 0 < i.due_writes → 0 < i.due_acknowledged → NoneShows showing i → HasNothingToDo listening i → choice listening g r showing i ≡ None

-- ---- turns

-- the answer of a call that was refused, which leaves it out for the rest of the turn
abbrev pub IsRefusal : Call → Type 0
IsRefusal (call.Accept n (Ok accepted.Full)) = ⊤
IsRefusal (call.Accept n (Ok accepted.NotYet)) = ⊤
IsRefusal (call.Read (Ok read.NoKit)) = ⊤
IsRefusal (call.Deliver n (Ok delivered.Waiting)) = ⊤
IsRefusal (call.Deliver n (Ok delivered.Later)) = ⊤
IsRefusal (call.AnswerLink place None) = ⊤
IsRefusal x = ⊥

-- it answered this act
abbrev pub IsOf : Act → Call → Type 0
IsOf a (call.Accept n answer) = a ≡ act.Accept n
IsOf a (call.Read answer) = a ≡ act.Read
IsOf a (call.Deliver n answer) = a ≡ act.Deliver n
IsOf a (call.AnswerLink place answer) = a ≡ act.Answer place
IsOf a x = ⊥

abbrev pub noted : Refused → Call → Refused
noted r (call.Accept n answer) = record r { accepts = n ∷ r.accepts }
noted r (call.Read answer) = record r { read = true }
noted r (call.Deliver n answer) = record r { deliveries = n ∷ r.deliveries }
noted r (call.AnswerLink place answer) = record r { answers = place ∷ r.answers }
noted r x = r

-- how many of these weren't refused
abbrev pub untried : List ℕ → List ℕ → ℕ
untried tried [] = 0
untried tried (n ∷ ns) = (if is_among n tried then 0 else 1) + untried tried ns

abbrev pub one_unless : Bool → ℕ
one_unless b = if b then 0 else 1

-- how many calls of a turn can be refused yet
abbrev pub chances : {places : Places} → Refused → LineView places → ℕ
chances r i = untried r.accepts (inputs_of i) + untried r.deliveries (batches_of i) + untried r.answers (places_of i) + one_unless r.read + one_unless r.take

module _ (makes : Makes) (listening : Listening) (bytes : Bytes) (places : Places) where
  -- calls of a turn, each of which was chosen, and refused; a result may be wanted where none is there; and parcels come meanwhile
  pub data Tries (g : Given) (r : Refused) (i : LineView places) : Given → Refused → LineView places → ℕ → Type 0 where
    Begins : Tries g r i g r i 0
    Is_refused : (h : Given) (s : Refused) (showing : List ℕ) (j : LineView places) (count : ℕ) (a : Act) (x : Call) (e : Effect places) → Tries g r i h s j count
        → choice listening h s showing j ≡ Some a → IsOf a x → IsRefusal x → Did makes listening bytes x j e
        → Tries g r i (given_now (summary_of listening h s showing j) h) (noted s x) e.line (suc count)
    Takes_none : (h : Given) (s : Refused) (showing : List ℕ) (j : LineView places) (count : ℕ) → Tries g r i h s j count → choice listening h s showing j ≡ Some act.Take
        → Tries g r i (given_now (summary_of listening h s showing j) h) (record s { take = true }) j (suc count)

  -- Each refusal leaves fewer to come, so a turn ends.
  abbrev pub TurnsEnd : Type 0
  TurnsEnd =
      (g : Given) (r : Refused) (i : LineView places) (h : Given) (s : Refused) (j : LineView places) (count : ℕ) → Tries g r i h s j count → count + chances s j ≤ chances r i
