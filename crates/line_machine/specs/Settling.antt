-- What is acknowledged in a line's queue, and recorded, against what it told.
use Rattle.std.specs.Prelude.{◌≡◌, ◌+◌, ℕ, false, List, ◌++◌, Some}
use Rattle.io_traits.specs.Images.{Image}
use Rattle.event_flow.specs.Meaning.{Makes}
use Rattle.queue_files.specs.Found.{Row}
use Rattle.queue_files.specs.Kept.{all_rows}
use Rattle.history_book.specs.Contents.{Bytes}
use Rattle.history_book.specs.Entries.{Entry}
use Rattle.history_book.specs.Links.{Listening}
use Rattle.history_book.specs.Lists.{IsIn}
use Rattle.history_book.specs.Queues.{acknowledged_in, next_in}
use Rattle.history_book.specs.Sound.{Places, LineSound}
use Rattle.history_book.specs.States.{State, start, after}
use Rattle.line_machine.specs.Openings.{IsOpenedLine, opening}
use Rattle.line_machine.specs.Recorded.{IsRecorded}
use Rattle.line_machine.specs.Stands.{Stands}
use Rattle.line_machine.specs.Steps.{Step, effect, GoesOn}
use Rattle.line_machine.specs.Views.{LineView}

-- What the history has as acknowledged is acknowledged in the queue; and where nothing came since the last mark, that recorded all.
pub record Settles {places : Places} (s : State) (i : LineView places) : Type 0 where
  pub there : (r : Row) → IsIn r (all_rows i.holds.queue.tails i.holds.queue.top) → IsIn r.number s.acknowledged → IsIn r.number (acknowledged_in i.holds.queue.tails i.holds.queue.top)
  pub recorded : i.uncovered ≡ false → IsRecorded i.holds.queue
  pub last : i.uncovered ≡ false → (front : ℕ) → i.mark ≡ Some front → front + 1 ≡ next_in i.holds.queue

module _ (makes : Makes) (listening : Listening) (bytes : Bytes) (places : Places) where
  -- Each step keeps what is recorded, from the opening on.
  abbrev pub StepsSettle : Type 0
  StepsSettle =
      (told : List Entry) (i : LineView places) (x : Step makes listening bytes i) → Stands makes bytes places told i → Settles (after makes start told) i → GoesOn makes listening bytes i x
      → Settles (after makes start (told ++ (effect makes listening bytes i x).told)) (effect makes listening bytes i x).line

  abbrev pub OpenedLineSettles : Type 0
  OpenedLineSettles =
      (told : List Entry) (image : Image) (sound : LineSound makes bytes places told image) (i : LineView places) → IsOpenedLine makes listening bytes places told image sound i
      → Settles (after makes start (told ++ opening makes listening bytes places told image sound i)) i
