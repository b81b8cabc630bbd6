-- When a line has nothing left to do, and what stands then.
use Rattle.std.specs.Prelude.{◌≡◌, ◌≤◌, ℕ, true, false, List, [], Some, None}
use Rattle.pipeline_bus.specs.Parcels.{is_last}
use Rattle.pipeline_bus.specs.declared.parcel.Answer.{Answer}
use Rattle.pipeline_bus.specs.declared.parcel.Parcel.{Parcel}
use Rattle.io_traits.specs.Images.{Image}
use Rattle.event_flow.specs.Meaning.{Makes}
use Rattle.history_book.specs.Contents.{Bytes}
use Rattle.history_book.specs.Deeds.{Deed, told_of}
use Rattle.history_book.specs.Entries.{Entry}
use Rattle.history_book.specs.Holdings.{StopLeaves}
use Rattle.history_book.specs.Links.{Listening}
use Rattle.history_book.specs.Lists.{IsIn}
use Rattle.history_book.specs.Sound.{Places}
use Rattle.history_book.specs.States.{Written, start, after}
use Rattle.line_machine.specs.Covering.{number_accepted}
use Rattle.line_machine.specs.Coming.{RowIn, rows_by, WasAssured}
use Rattle.line_machine.specs.Ends.{TakerView, SenderView, sender_at, IsServed}
use Rattle.line_machine.specs.Finds.{ends_served, IsAway, IsHome, IsAtEnd, HasEnded}
use Rattle.line_machine.specs.Lines.{LineStands}
use Rattle.line_machine.specs.Since.{since, of_each}
use Rattle.line_machine.specs.Unchanged.{HasNoneSpent}
use Rattle.line_machine.specs.Views.{Incoming, InputView, LineView}

-- ---- what is answered

module _ {places : Places} where
  -- each parcel with events that was taken at an end that is served has its answer, and each that was sent
  abbrev pub TakenAreAnswered : LineView places → Type 0
  TakenAreAnswered i = (t : TakerView) → IsIn t i.takers → IsServed (ends_served i) t.place → (p : Parcel) → IsIn p t.taken → is_last p ≡ false → (a : Answer) × IsIn a t.given × (a.number ≡ p.number)

  abbrev pub SentAreAnswered : LineView places → Type 0
  SentAreAnswered i =
      (address : List ℕ) (s : SenderView) → sender_at address i.senders ≡ Some s → (p : Parcel) → IsIn p s.sends.sent → is_last p ≡ false → (a : Answer) × IsIn a s.sends.heard × (a.number ≡ p.number)

-- ---- at rest

module _ (listening : Listening) {places : Places} where
  -- each row that an open input accepted, which listens on no address, was acknowledged to it
  abbrev pub RowsAreAssured : List Entry → LineView places → Type 0
  RowsAreAssured told i =
      (v : InputView) → IsIn v i.inputs → v.is_open ≡ true → listening.address v.statement ≡ None → (r : RowIn) → IsIn r (rows_by v.number told) → WasAssured told v.number r.number

  -- The line wasn't told to stop, its inputs are at their ends, no batch is out and no row is unread, no parcel waits, nothing came since the last mark, each input was
  -- told of all its rows, and no page is spent.
  pub record IsAtRest (i : LineView places) : Type 0 where
    pub running : i.stopped ≡ false
    pub ended : HasEnded listening i
    pub covered : i.uncovered ≡ false
    pub assured : (v : InputView) → IsIn v i.inputs → v.rows ≡ []
    pub none_spent : HasNoneSpent i

  -- A line that was told to stop has come to an end: no job is out, no batch is delivered and not acknowledged, nothing came since the last mark, each input was told
  -- of all its rows, no parcel waits at an end with which it goes on, and no page is spent; and where it drains, nothing comes from it to others any more.
  pub record IsAtStop (i : LineView places) : Type 0 where
    pub told_to : i.stopped ≡ true
    pub no_jobs : (n : ℕ) → IsAway i n → ⊥
    pub none_finished : (n : ℕ) → IsHome i n [] → ⊥
    pub covered : i.uncovered ≡ false
    pub assured : (v : InputView) → IsIn v i.inputs → v.rows ≡ []
    pub answered : (t : TakerView) → IsIn t i.takers → IsServed (ends_served i) t.place → (t.waits ≡ []) × (t.lost ≡ [])
    pub none_spent : HasNoneSpent i
    pub drained : i.drains ≡ true → HasEnded listening i

module _ (makes : Makes) (listening : Listening) (bytes : Bytes) (places : Places) where
  -- Each row that was accepted since the line was opened is settled; each that an open input accepted, which listens on no address, was acknowledged to it; each parcel with
  -- events that was taken at an end with which the line goes on has its answer; and of a line that drains every row is acknowledged, which is recorded, and each parcel with
  -- events that it sent has its answer.
  pub record IsStopped (told : List Entry) (i : LineView places) : Type 0 where
    pub marked : (n : ℕ) → IsIn n (of_each number_accepted (since told)) → n ≤ (after makes start told).front
    pub assured : RowsAreAssured listening told i
    pub rows : i.drains ≡ true → (w : Written) → IsIn w (after makes start told).rows → IsIn w.number (after makes start told).acknowledged
    pub recorded : i.drains ≡ true → (image : Image) → (left : StopLeaves makes bytes places told i.holds image) → left.queue.held.rows ≡ []
    pub taken : TakenAreAnswered i
    pub sent : i.drains ≡ true → SentAreAnswered i

  -- A line that was told to stop and has come to an end is stopped.
  abbrev pub StopIsStopped : Type 0
  StopIsStopped = (earlier : List Entry) (deeds : List Deed) (came : ℕ → List Incoming) (i : LineView places) → LineStands makes listening bytes places earlier deeds came i → IsAtStop listening i → IsStopped (told_of deeds) i

  -- Every row is acknowledged, no batch is out, and nothing is found in the queue in whatever a stop leaves; each input is at its end, and each row that an open one
  -- accepted, which listens on no address, was acknowledged to it; and each parcel with events that was taken or sent has its answer.
  pub record IsDone (told : List Entry) (i : LineView places) : Type 0 where
    pub rows : (w : Written) → IsIn w (after makes start told).rows → IsIn w.number (after makes start told).acknowledged
    pub out : (after makes start told).out ≡ []
    pub found : (image : Image) → (left : StopLeaves makes bytes places told i.holds image) → left.queue.held.rows ≡ []
    pub inputs : (v : InputView) → IsIn v i.inputs → v.is_open ≡ true → IsAtEnd listening i v
    pub assured : RowsAreAssured listening told i
    pub taken : TakenAreAnswered i
    pub sent : SentAreAnswered i

  -- A line that is at rest is done.
  abbrev pub RestIsDone : Type 0
  RestIsDone = (earlier : List Entry) (deeds : List Deed) (came : ℕ → List Incoming) (i : LineView places) → LineStands makes listening bytes places earlier deeds came i → IsAtRest listening i → IsDone (told_of deeds) i
