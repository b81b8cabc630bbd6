-- What a mark covers.
use Rattle.std.specs.Prelude.{◌≡◌, ◌≤◌, ◌<◌, ℕ, false, List, [], ◌∷◌, ◌++◌, Some}
use Rattle.io_traits.specs.Images.{Image}
use Rattle.event_flow.specs.Meaning.{Makes}
use Rattle.history_book.specs.Contents.{Bytes}
use Rattle.history_book.specs.Entries.{Entry, Accept}
use Rattle.history_book.specs.Links.{Listening}
use Rattle.history_book.specs.Lists.{IsIn}
use Rattle.history_book.specs.Queues.{next_in}
use Rattle.history_book.specs.Sound.{Places, LineSound}
use Rattle.line_machine.specs.Ends.{Waiting, TakerView}
use Rattle.line_machine.specs.Openings.{IsOpenedLine, opening}
use Rattle.line_machine.specs.Since.{since, of_each}
use Rattle.line_machine.specs.Steps.{Step, effect, GoesOn}
use Rattle.line_machine.specs.Views.{RowAt, InputView, LineView}

module _ {places : Places} where
  -- the row of this number was accepted since the line was opened; where nothing came since the last mark, that covers it
  abbrev pub IsCovered : LineView places → ℕ → Type 0
  IsCovered i n = (n < next_in i.holds.queue) × (i.uncovered ≡ false → (front : ℕ) × (i.mark ≡ Some front) × (n ≤ front))

  -- So it is with the rows of which inputs weren't told, and with those of parcels that wait; and where nothing came since the last mark, nothing is counted.
  pub record MarksCover (i : LineView places) : Type 0 where
    pub counted : i.uncovered ≡ false → (i.written ≡ 0) × (i.acknowledged ≡ 0)
    pub inputs : (v : InputView) → IsIn v i.inputs → (r : RowAt) → IsIn r v.rows → IsCovered i r.number
    pub takers : (t : TakerView) → IsIn t i.takers → (w : Waiting) → IsIn w t.waits → (n : ℕ) → IsIn n w.rows → IsCovered i n

-- the number of a row that an entry says was accepted
abbrev pub number_accepted : Entry → List ℕ
number_accepted (Accept input parcel number event) = number ∷ []
number_accepted e = []

-- so it is with each row that was accepted since the line was opened
abbrev pub RowsAreCovered : {places : Places} → List Entry → LineView places → Type 0
RowsAreCovered told i = (n : ℕ) → IsIn n (of_each number_accepted (since told)) → IsCovered i n

module _ (makes : Makes) (listening : Listening) (bytes : Bytes) (places : Places) where
  -- So it is once a line was opened, and behind each step.
  abbrev pub OpenedMarksCover : Type 0
  OpenedMarksCover =
      (told : List Entry) (image : Image) (sound : LineSound makes bytes places told image) (i : LineView places) → IsOpenedLine makes listening bytes places told image sound i → MarksCover i

  abbrev pub MarksCoverStill : Type 0
  MarksCoverStill = (i : LineView places) (x : Step makes listening bytes i) → MarksCover i → GoesOn makes listening bytes i x → MarksCover (effect makes listening bytes i x).line

  abbrev pub OpenedRowsAreCovered : Type 0
  OpenedRowsAreCovered =
      (told : List Entry) (image : Image) (sound : LineSound makes bytes places told image) (i : LineView places) → IsOpenedLine makes listening bytes places told image sound i
      → RowsAreCovered (told ++ opening makes listening bytes places told image sound i) i

  abbrev pub RowsAreCoveredStill : Type 0
  RowsAreCoveredStill =
      (told : List Entry) (i : LineView places) (x : Step makes listening bytes i) → RowsAreCovered told i → GoesOn makes listening bytes i x
      → RowsAreCovered (told ++ (effect makes listening bytes i x).told) (effect makes listening bytes i x).line
