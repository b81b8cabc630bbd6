-- By which input each event came that a line accepted since it was opened, and in which parcel.
use Rattle.std.specs.Prelude.{◌≡◌, true, ℕ, List, [], ◌∷◌, ◌++◌, Option, Some, None}
use Rattle.io_traits.specs.Images.{Image}
use Rattle.event_flow.specs.Meaning.{Makes}
use Rattle.history_book.specs.Contents.{Bytes}
use Rattle.history_book.specs.Entries.{Entry, ParcelAt, Accept}
use Rattle.history_book.specs.Links.{Listening}
use Rattle.history_book.specs.Lists.{IsIn}
use Rattle.history_book.specs.Sound.{Places, LineSound}
use Rattle.line_machine.specs.Ends.{TakerView}
use Rattle.line_machine.specs.Openings.{IsOpenedLine, opening}
use Rattle.line_machine.specs.Serving.{EndsStand}
use Rattle.line_machine.specs.Since.{since, of_each}
use Rattle.line_machine.specs.Stands.{Stands}
use Rattle.line_machine.specs.Steps.{Step, effect, GoesOn}
use Rattle.line_machine.specs.Views.{InputView, LineView}

-- the number of an input by which an event came, and the parcel in which it did
pub record WayIn : Type 0 where
  pub input : ℕ
  pub parcel : Option ParcelAt

abbrev pub way_in : Entry → List WayIn
way_in (Accept input parcel number event) = record { input = input; parcel = parcel } ∷ []
way_in e = []

module _ (listening : Listening) where
  -- An input gives events in no parcel where it listens on no address, and those of parcels where it has the end of their place.
  abbrev pub MayGive : List TakerView → InputView → Option ParcelAt → Type 0
  MayGive ts v None = listening.address v.statement ≡ None
  MayGive ts v (Some at) = (t : TakerView) × IsIn t ts × (t.place ≡ at.place) × (t.input ≡ v.number)

  -- the line has the input, which gives such events while it is open
  pub record IsWayIn (inputs : List InputView) (ts : List TakerView) (w : WayIn) : Type 0 where
    pub input : InputView
    pub has : IsIn input inputs
    pub number_is : input.number ≡ w.input
    pub gives : input.is_open ≡ true → MayGive ts input w.parcel

  -- So it is with each event that was accepted since the line was opened.
  abbrev pub WaysStand : List Entry → List InputView → List TakerView → Type 0
  WaysStand told inputs ts = (w : WayIn) → IsIn w (of_each way_in (since told)) → IsWayIn inputs ts w

module _ (makes : Makes) (listening : Listening) (bytes : Bytes) (places : Places) where
  -- So it is once a line was opened, and behind each step.
  abbrev pub OpenedWaysStand : Type 0
  OpenedWaysStand =
      (told : List Entry) (image : Image) (sound : LineSound makes bytes places told image) (i : LineView places) → IsOpenedLine makes listening bytes places told image sound i
      → WaysStand listening (told ++ opening makes listening bytes places told image sound i) i.inputs i.takers

  abbrev pub WaysStandStill : Type 0
  WaysStandStill =
      (told : List Entry) (i : LineView places) (x : Step makes listening bytes i) → Stands makes bytes places told i → EndsStand listening i.inputs i.takers → WaysStand listening told i.inputs i.takers
      → GoesOn makes listening bytes i x
      → WaysStand listening (told ++ (effect makes listening bytes i x).told) (effect makes listening bytes i x).line.inputs (effect makes listening bytes i x).line.takers
