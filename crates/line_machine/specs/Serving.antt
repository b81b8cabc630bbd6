-- The ends of links at which a line listens, and the inputs to which they belong.
use Rattle.std.specs.Prelude.{◌≡◌, true, List, [], Some}
use Rattle.io_traits.specs.Images.{Image}
use Rattle.event_flow.specs.Meaning.{Makes}
use Rattle.history_book.specs.Contents.{Bytes}
use Rattle.history_book.specs.Entries.{Entry}
use Rattle.history_book.specs.Links.{Listening}
use Rattle.history_book.specs.Lists.{IsIn}
use Rattle.history_book.specs.Sound.{Places, LineSound}
use Rattle.line_machine.specs.Ends.{TakerView}
use Rattle.line_machine.specs.Finds.{AreNextParcels}
use Rattle.line_machine.specs.Openings.{IsOpenedLine}
use Rattle.line_machine.specs.Stands.{Stands}
use Rattle.line_machine.specs.Steps.{Step, effect}
use Rattle.line_machine.specs.Views.{InputView, LineView}

-- An end belongs to an input that listens, or listened, on its address; it listens while that is open. Parcels are lost there only once it is closed, and they come
-- next in the ring.
pub record EndStands (listening : Listening) (inputs : List InputView) (t : TakerView) : Type 0 where
  pub input : InputView
  pub has : IsIn input inputs
  pub number_is : input.number ≡ t.input
  pub address_is : listening.address input.statement ≡ Some t.address
  pub listens : t.listens ≡ input.is_open
  pub lost : AreNextParcels t.next t.lost
  pub none_lost : t.listens ≡ true → t.lost ≡ []

abbrev pub EndsStand : Listening → List InputView → List TakerView → Type 0
EndsStand listening inputs ts = (t : TakerView) → IsIn t ts → EndStands listening inputs t

module _ (makes : Makes) (listening : Listening) (bytes : Bytes) (places : Places) where
  -- So it is once a line was opened, and behind each step.
  abbrev pub OpenedEndsStand : Type 0
  OpenedEndsStand =
      (told : List Entry) (image : Image) (sound : LineSound makes bytes places told image) (i : LineView places) → IsOpenedLine makes listening bytes places told image sound i
      → EndsStand listening i.inputs i.takers

  abbrev pub EndsStandStill : Type 0
  EndsStandStill =
      (told : List Entry) (i : LineView places) (x : Step makes listening bytes i) → Stands makes bytes places told i → EndsStand listening i.inputs i.takers
      → EndsStand listening (effect makes listening bytes i x).line.inputs (effect makes listening bytes i x).line.takers
