-- What a line sent to addresses, and heard, against what it told.
use Rattle.std.specs.Prelude.{◌≡◌, true, false, List, ◌++◌}
use Rattle.pipeline_bus.specs.Parcels.{is_last, numbered}
use Rattle.pipeline_bus.specs.declared.parcel.Parcel.{Parcel}
use Rattle.io_traits.specs.Images.{Image}
use Rattle.event_flow.specs.Meaning.{Makes}
use Rattle.history_book.specs.Contents.{Bytes}
use Rattle.history_book.specs.Entries.{Entry}
use Rattle.history_book.specs.Links.{Listening, WasNext}
use Rattle.history_book.specs.Lists.{IsIn}
use Rattle.history_book.specs.Sound.{Places, LineSound}
use Rattle.line_machine.specs.Ends.{SenderView}
use Rattle.line_machine.specs.Openings.{IsOpenedLine, opening}
use Rattle.line_machine.specs.Stands.{Stands}
use Rattle.line_machine.specs.Steps.{Step, effect, GoesOn}
use Rattle.line_machine.specs.Views.{LineView}

module _ (makes : Makes) where
  -- Each parcel with events was, when it was sent, the next delivery that was due of a batch to its address, and has the next number of its link.
  pub record SenderStands (told : List Entry) (s : SenderView) : Type 0 where
    pub in_turn : numbered 0 s.sends.sent ≡ true
    pub due : (p : Parcel) → IsIn p s.sends.sent → is_last p ≡ false → (p.address ≡ s.address) × WasNext makes s.address told p.events

  abbrev pub SendersStand : List Entry → List SenderView → Type 0
  SendersStand told ss = (s : SenderView) → IsIn s ss → SenderStands told s

module _ (makes : Makes) (listening : Listening) (bytes : Bytes) (places : Places) where
  -- So it is once a line was opened, and behind each step; new ends have sent nothing.
  abbrev pub OpenedParcelsWereDue : Type 0
  OpenedParcelsWereDue =
      (told : List Entry) (image : Image) (sound : LineSound makes bytes places told image) (i : LineView places) → IsOpenedLine makes listening bytes places told image sound i
      → SendersStand makes (told ++ opening makes listening bytes places told image sound i) i.senders

  abbrev pub ParcelsWereDue : Type 0
  ParcelsWereDue =
      (told : List Entry) (i : LineView places) (x : Step makes listening bytes i) → Stands makes bytes places told i → SendersStand makes told i.senders → GoesOn makes listening bytes i x
      → SendersStand makes (told ++ (effect makes listening bytes i x).told) (effect makes listening bytes i x).line.senders
