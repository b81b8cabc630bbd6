-- Which acts a line may be asked for, and which answers leave all as it was.
use Rattle.std.specs.Prelude.{◌≡◌, ◌≢◌, ◌⊎◌, ℕ, true, false, List, [], ◌∷◌, ◌++◌, Some, None, Ok, Err, ⊤}
use Rattle.event_tree.specs.Events.{Ev}
use Rattle.foreign_parts.specs.declared.place.Place.TheVariants as place
use Rattle.pipeline_bus.specs.declared.parcel.Heard.{Heard}
use Rattle.pipeline_bus.specs.Parcels.{ends_with_last}
use Rattle.event_flow.specs.Meaning.{Due}
use Rattle.event_flow.specs.Meaning as due
use Rattle.queue_files.specs.Kept.{Page}
use Rattle.queue_files.specs.Steps.{IsSpent}
use Rattle.history_book.specs.Links.{Listening}
use Rattle.history_book.specs.Lists.{IsIn}
use Rattle.history_book.specs.Sound.{Places}
use Rattle.line_machine.specs.declared.calls.Accepted.TheVariants as accepted
use Rattle.line_machine.specs.declared.calls.Act.{Act}
use Rattle.line_machine.specs.declared.calls.Act.TheVariants as act
use Rattle.line_machine.specs.declared.calls.Call.{Call}
use Rattle.line_machine.specs.declared.calls.Call.TheVariants as call
use Rattle.line_machine.specs.declared.calls.Delivered.TheVariants as delivered
use Rattle.line_machine.specs.declared.calls.LineFault.TheVariants as fault
use Rattle.line_machine.specs.declared.calls.ReadOut.TheVariants as read
use Rattle.line_machine.specs.Ends.{TakerView, SenderView, taker_at, sender_at, IsFree, WasHeard}
use Rattle.line_machine.specs.Finds.{HasInput, IsAway, IsHome, IsRead, HasEnded}
use Rattle.line_machine.specs.Views.{InputView, LineView}

module _ {places : Places} where
  -- ---- what can be asked for

  -- the input is open; or it is closed, and a parcel that it took isn't answered
  abbrev pub IsAsked : LineView places → InputView → Type 0
  IsAsked i v = (v.is_open ≡ true) ⊎ ((t : TakerView) × IsIn t i.takers × (t.input ≡ v.number) × (t.waits ≡ [] → ⊥))

  -- the act can be asked for, as far as the line says
  abbrev pub CanDo : LineView places → Act → Type 0
  CanDo i (act.Accept n) = (h : HasInput i n) × IsAsked i h.input
  CanDo i act.Read = ⊤
  CanDo i act.Take = (n : ℕ) × IsAway i n
  CanDo i (act.Deliver n) = (left : List Due) × IsHome i n left
  CanDo i (act.Acknowledge n) = IsHome i n []
  CanDo i act.Mark = ⊤
  CanDo i (act.Assure n) = (h : HasInput i n) × IsAsked i h.input × (i.mark ≡ None → ⊥)
  CanDo i act.Purge = ⊤
  CanDo i (act.Answer place) = (t : TakerView) × (taker_at place i.takers ≡ Some t)

  -- ---- what answers find

  -- The next delivery is to an address, and of the parcel in which it was sent, if it was, nothing was heard.
  pub record IsUnheard (i : LineView places) (n : ℕ) : Type 0 where
    pub id : List ℕ
    pub address : List ℕ
    pub events : List Ev
    pub rest : List Due
    pub home : IsHome i n (due.Events id (place.Address address) events ∷ rest)
    pub unheard : (number : ℕ) (heard : Heard) → home.batch.parcel ≡ Some number → WasHeard address number heard i.senders → ⊥

  -- it is to a box
  pub record IsForBox (i : LineView places) (n : ℕ) : Type 0 where
    pub id : List ℕ
    pub number : ℕ
    pub events : List Ev
    pub rest : List Due
    pub home : IsHome i n (due.Events id (place.Foreign number) events ∷ rest)

  -- it is to a file
  pub record IsForFile (i : LineView places) (n : ℕ) : Type 0 where
    pub id : List ℕ
    pub path : List ℕ
    pub events : List Ev
    pub rest : List Due
    pub home : IsHome i n (due.Events id (place.File path) events ∷ rest)

  -- no page below the head is spent
  abbrev pub HasNoneSpent : LineView places → Type 0
  HasNoneSpent i = (p : Page) → IsIn p i.holds.queue.tails → IsSpent p → ⊥

module _ (listening : Listening) {places : Places} where
  -- an input is read that listens on no address
  abbrev pub ReadsAt : LineView places → ℕ → Type 0
  ReadsAt i n = (h : HasInput i n) × IsRead listening i h.input

  -- a last parcel was sent by each end by which it is due
  abbrev pub HasSentLast : LineView places → Type 0
  HasSentLast i = HasEnded listening i → (address : List ℕ) (s : SenderView) → sender_at address i.senders ≡ Some s → ends_with_last s.sends.sent ≡ true

  -- The call with this answer leaves all as it was: nothing more is there to be done, or it has to wait; a file that it reads first is damaged; or there was no memory, or no
  -- number left for a batch, for an end, or for a generation, which counts as that. A read finds that no kit is at home only where a row is unread. No end is given back only
  -- where none is done with, each for itself.
  abbrev pub LeavesAll : LineView places → Call → Type 0
  LeavesAll i (call.Accept n (Ok accepted.NotYet)) = (reads : ReadsAt i n) × (reads.0.input.held ≡ [])
  LeavesAll i (call.Accept n (Err (fault.Damaged damage))) = ReadsAt i n
  LeavesAll i (call.Read (Ok read.Nothing)) = i.kept ++ i.unread ≡ []
  LeavesAll i (call.Read (Ok read.NoKit)) = (i.kits ≡ []) × (i.kept ++ i.unread ≢ [])
  LeavesAll i (call.Read (Err (fault.Damaged damage))) = ⊤
  LeavesAll i (call.Read (Err fault.Memory)) = ⊤
  LeavesAll i (call.Deliver n (Ok delivered.Waiting)) = IsUnheard i n
  LeavesAll i (call.Deliver n (Ok delivered.Later)) = IsForBox i n
  LeavesAll i (call.Deliver n (Ok delivered.Finished)) = IsHome i n []
  LeavesAll i (call.Deliver n (Err (fault.Damaged damage))) = IsForFile i n
  LeavesAll i (call.Purge (Ok None)) = HasNoneSpent i
  LeavesAll i (call.AnswerLink place None) = (t : TakerView) × (taker_at place i.takers ≡ Some t)
  LeavesAll i (call.PushLast all) = all ≡ true → HasSentLast i
  LeavesAll i (call.Room enough) = ⊤
  LeavesAll i (call.Release false) = (t : TakerView) → IsIn t i.takers → IsFree t → ⊥
  LeavesAll i (call.Skipped a) = CanDo i a → ⊥
  LeavesAll i x = ⊥

  -- The call with this answer only fails, and the line takes no further one: an input that begins can't be opened, rows can't be read, or a mark or the removal of a page
  -- doesn't get through. Its places are said to hold what they held.
  abbrev pub OnlyFails : LineView places → Call → Type 0
  OnlyFails i (call.Accept n (Err fault.Store)) = ReadsAt i n
  OnlyFails i (call.Read (Err fault.Store)) = ⊤
  OnlyFails i (call.Mark (Err fault.Store)) = ⊤
  OnlyFails i (call.Purge (Err fault.Store)) = ⊤
  OnlyFails i x = ⊥
