-- What the reader of a queue of dead letters has to send, how far it came, and what went through its end of the link.
use Rattle.std.specs.Prelude.{◌≡◌, ◌⊎◌, ◌<◌, ◌≤◌, ◌+◌, ℕ, true, false, List, [], ◌∷◌, ◌++◌, length, take, drop}
use Rattle.event_tree.specs.Events.{Ev}
use Rattle.pipeline_bus.specs.Parcels.{ends_with_last, is_last, with_events}
use Rattle.pipeline_bus.specs.Ends.{Sending, sending}
use Rattle.pipeline_bus.specs.declared.parcel.Parcel.{Parcel}
use Rattle.pipeline_bus.specs.declared.parcel.Answer.{Answer}
use Rattle.pipeline_bus.specs.declared.link.LinkSender.{LinkSender}
use Rattle.dead_letters.specs.declared.segments.Counted.{Counted}
use Rattle.dead_letters.specs.declared.rows.DeadRow.{DeadRow}
use Rattle.dead_letter_reader.specs.Marks.{events_of}
use Rattle.dead_letter_reader.specs.Parcels.{assured, kept}
use Rattle.dead_letter_reader.specs.declared.sender.DeadSender.{DeadSender}

pub record Work : Type 0 where
  -- the address that letters are sent to, and the file of the place up to which they were answered
  pub address : List ℕ
  pub file : List ℕ
  -- the letters that are to be sent, in order
  pub rows : List DeadRow
  -- how many of them were answered Assured, and how many behind these are out in a parcel without an answer
  pub done : ℕ
  pub out : ℕ
  -- what the file says
  pub recorded : Counted
  -- what went through the end of the link
  pub sends : Sending

abbrev pub sender_of : DeadSender → LinkSender
sender_of d = d.sender

abbrev pub work : DeadSender → Work
work d = record { address = d.address; file = d.file; rows = d.rows; done = d.done; out = d.out; recorded = d.recorded; sends = sending d.sender }

-- ---- the parcels, against the letters

-- the parcels, less those that were answered NotListening, have a front of the letters, in order and each once; and those that were answered Assured have the first
pub record InOrder (w : Work) : Type 0 where
  pub rest : List Ev
  pub front : kept w.sends.sent w.sends.heard ++ rest ≡ events_of w.rows
  pub are_assured : assured w.sends.sent w.sends.heard ≡ events_of (take w.done w.rows)

-- each letter was answered Assured, and the last parcel was sent
pub record IsAllSent (w : Work) : Type 0 where
  pub are_kept : kept w.sends.sent w.sends.heard ≡ events_of w.rows
  pub are_assured : assured w.sends.sent w.sends.heard ≡ events_of w.rows
  pub last : ends_with_last w.sends.sent ≡ true

-- ---- how far it came

-- each of these parcels with events has its answer, and those that were answered Assured have these events
pub record AllAnswered (sent : List Parcel) (heard : List Answer) (events : List Ev) : Type 0 where
  pub each : with_events sent ≡ length heard
  pub are_kept : kept sent heard ≡ events
  pub are_assured : assured sent heard ≡ events

-- the last parcel has the letters that are out, and no answer, and each one before has its own
pub record OneIsOut (w : Work) : Type 0 where
  pub before : List Parcel
  pub parcel : Parcel
  pub some : 0 < w.out
  pub filled : is_last parcel ≡ false
  pub sent : w.sends.sent ≡ before ++ parcel ∷ []
  pub events : parcel.events ≡ events_of (take w.out (drop w.done w.rows))
  pub answered : AllAnswered before w.sends.heard (events_of (take w.done w.rows))

pub record NoneIsOut (w : Work) : Type 0 where
  pub none : w.out ≡ 0
  pub answered : AllAnswered w.sends.sent w.sends.heard (events_of (take w.done w.rows))

pub record IsSending (w : Work) : Type 0 where
  pub within : w.done + w.out ≤ length w.rows
  pub parcels : NoneIsOut w ⊎ OneIsOut w
  pub ended : ends_with_last w.sends.sent ≡ true → (w.done ≡ length w.rows) × (w.out ≡ 0)
