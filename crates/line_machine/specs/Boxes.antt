-- The boxes of a line's outputs: each is closed once, when no batch of its configuration is out any more.
use Rattle.std.specs.Prelude.{◌≡◌, ℕ, ◌+◌, true, false, List, []}
use Rattle.io_traits.specs.Images.{Image}
use Rattle.event_flow.specs.Meaning.{Makes}
use Rattle.history_book.specs.Contents.{Bytes}
use Rattle.history_book.specs.Entries.{Entry}
use Rattle.history_book.specs.Links.{Listening}
use Rattle.history_book.specs.Lists.{IsIn}
use Rattle.history_book.specs.Sound.{Places, LineSound}
use Rattle.line_machine.specs.Effects.{boxes_of, is_wanted}
use Rattle.line_machine.specs.Kits.{weigh}
use Rattle.line_machine.specs.Openings.{IsOpenedLine}
use Rattle.line_machine.specs.Steps.{Step, Adopts, effect}
use Rattle.line_machine.specs.Views.{Box, Batch, LineView}

module _ {places : Places} where
  -- The boxes of the newest configuration are there, and those of each batch that is out; and no others are.
  pub record BoxesStand (i : LineView places) : Type 0 where
    pub newest : (x : Box) → IsIn x (boxes_of i.plan) → IsIn x i.boxes
    pub out : (b : Batch) → IsIn b i.batches → (x : Box) → IsIn x (boxes_of b.plan) → IsIn x i.boxes
    pub wanted : (x : Box) → IsIn x i.boxes → is_wanted i.plan.generation i.batches x ≡ true

module _ (makes : Makes) (listening : Listening) (bytes : Bytes) (places : Places) where
  -- those that come with a configuration
  abbrev pub new_boxes : (i : LineView places) → Step makes listening bytes i → List Box
  new_boxes i (Adopts c) = boxes_of c.plan
  new_boxes i x = []

  -- No step loses one or doubles one: those that the line had, and those that came, it has, or they were closed.
  abbrev pub BoxesStay : Type 0
  BoxesStay =
      (i : LineView places) (x : Step makes listening bytes i) (w : Box → ℕ)
      → weigh w (effect makes listening bytes i x).line.boxes + weigh w (effect makes listening bytes i x).closed_boxes ≡ weigh w i.boxes + weigh w (new_boxes i x)

  -- One that is closed is wanted no more: it is of an older configuration, and no batch of that is out.
  abbrev pub ClosedAreUnwanted : Type 0
  ClosedAreUnwanted =
      (i : LineView places) (x : Step makes listening bytes i) (b : Box) → IsIn b (effect makes listening bytes i x).closed_boxes
      → is_wanted (effect makes listening bytes i x).line.plan.generation (effect makes listening bytes i x).line.batches b ≡ false

  -- So it is once a line was opened, and behind each step; so a box is closed by the step that acknowledges the last batch of its configuration.
  abbrev pub OpenedBoxesStand : Type 0
  OpenedBoxesStand =
      (told : List Entry) (image : Image) (sound : LineSound makes bytes places told image) (i : LineView places) → IsOpenedLine makes listening bytes places told image sound i → BoxesStand i

  abbrev pub BoxesStandStill : Type 0
  BoxesStandStill = (i : LineView places) (x : Step makes listening bytes i) → BoxesStand i → BoxesStand (effect makes listening bytes i x).line
