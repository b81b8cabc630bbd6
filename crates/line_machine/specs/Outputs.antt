-- What stdout and boxes took of a line, against what it told.
use Rattle.std.specs.Prelude.{◌≡◌, ◌==◌, ℕ, List, [], ◌∷◌, ◌++◌, if◌then◌else◌}
use Rattle.event_tree.specs.Events.{Ev}
use Rattle.event_flow.specs.Meaning.{Makes}
use Rattle.history_book.specs.Contents.{Bytes}
use Rattle.history_book.specs.Entries.{Entry}
use Rattle.history_book.specs.Links.{Listening}
use Rattle.history_book.specs.Sound.{Places}
use Rattle.history_book.specs.Steps.{printed, given}
use Rattle.line_machine.specs.Stands.{Stands}
use Rattle.line_machine.specs.Steps.{Step, effect, GoesOn}
use Rattle.line_machine.specs.Views.{Given, LineView}

-- what the box of this number took
abbrev pub took_by : ℕ → List Given → List Ev
took_by number [] = []
took_by number (g ∷ given) = (if number == g.box then g.events else []) ++ took_by number given

module _ (makes : Makes) (listening : Listening) (bytes : Bytes) (places : Places) where
  -- What a step gave to stdout and to boxes is what it tells of them. Where the next delivery of a batch fails, the step gives a first part of it, and tells nothing.
  abbrev pub OutputsTookWhatWasTold : Type 0
  OutputsTookWhatWasTold =
      (told : List Entry) (i : LineView places) (x : Step makes listening bytes i) → Stands makes bytes places told i → GoesOn makes listening bytes i x
      → (printed makes bytes (told ++ (effect makes listening bytes i x).told) ≡ printed makes bytes told ++ (effect makes listening bytes i x).printed)
      × ((number : ℕ) → given makes number (told ++ (effect makes listening bytes i x).told) ≡ given makes number told ++ took_by number (effect makes listening bytes i x).given)
