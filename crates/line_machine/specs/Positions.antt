-- Positions of watched files that a line records, by the lines that came to its inputs.
use Rattle.std.specs.Prelude.{◌≡◌, ◌≤◌, ℕ, true, List, [], ◌∷◌, ◌++◌, length, map, take, drop, Some, None, if◌then◌else◌}
use Rattle.io_traits.specs.Folders.{Content}
use Rattle.io_traits.specs.Images.{Image}
use Rattle.io_traits.specs.Reads.{bytes_of}
use Rattle.config_tree.specs.declared.tree.Plugin.{Plugin}
use Rattle.event_flow.specs.Meaning.{Makes}
use Rattle.in_lines.specs.Polls.{Poll, joined, is_ended}
use Rattle.slot_files.specs.Positions.{recorded_in}
use Rattle.history_book.specs.Contents.{Bytes}
use Rattle.history_book.specs.Deeds.{Deed, told_of}
use Rattle.history_book.specs.Entries.{Entry}
use Rattle.history_book.specs.Links.{Listening}
use Rattle.history_book.specs.Lists.{IsIn}
use Rattle.history_book.specs.Sound.{Places}
use Rattle.history_book.specs.Sources.{Sources}
use Rattle.history_book.specs.Steps.{NoOpening}
use Rattle.history_book.specs.Watched.{WatchedFile, IsPosition, look_at, PositionSound}
use Rattle.line_machine.specs.Coming.{rows_by}
use Rattle.line_machine.specs.Effects.{is_of_file}
use Rattle.line_machine.specs.Lines.{LineStands}
use Rattle.line_machine.specs.Steps.{Step, effect}
use Rattle.line_machine.specs.Views.{FileAt, Incoming, InputView, LineView}

-- those of these lines that came from the file of this path
abbrev pub lines_of : List ℕ → List Incoming → List Incoming
lines_of path [] = []
lines_of path (x ∷ xs) = if is_of_file path x.at then x ∷ lines_of path xs else lines_of path xs

module _ (listening : Listening) (sources : Sources) where
  -- An input with this statement, which watches the file, began to read it at a place: its bytes from there up to a further place, read to their end by themselves, give those of
  -- these lines that came from it.
  pub record IsReadUpTo (statement : Plugin) (bytes : List ℕ) (from : ℕ) (lines : List Incoming) (f : FileAt) : Type 0 where
    pub watches : sources.watches statement f.path ≡ true
    pub begins : from ≤ f.behind
    pub within : f.behind ≤ length bytes
    pub polls : List Poll
    pub polls_are : joined polls ≡ drop from (take f.behind bytes)
    pub ended : is_ended polls ≡ true
    pub gives : sources.gives statement (map (λ (p : Poll). look_at f.path p) polls) ≡ map (λ (x : Incoming). x.event) (lines_of f.path lines)

  -- So it is with each line that came to an open input that listens on no address, up to the place behind it, by where each input began to read each file.
  abbrev pub LinesAreRead : {places : Places} → LineView places → (ℕ → List Incoming) → Content → (ℕ → List ℕ → ℕ) → Type 0
  LinesAreRead i came files begins =
      (v : InputView) → IsIn v i.inputs → v.is_open ≡ true → listening.address v.statement ≡ None → (before : List Incoming) (line : Incoming) (behind : List Incoming) (f : FileAt)
      → came v.number ≡ before ++ line ∷ behind → line.at ≡ Some f → IsReadUpTo v.statement (bytes_of (files f.path)) (begins v.number f.path) (before ++ line ∷ []) f

  module _ (makes : Makes) where
    -- The place at which the input of this number began to read a file was recorded, or the base, and agreed with what was told by then, since when the pipeline wasn't opened; the
    -- input had accepted nothing.
    pub record BeganAt (told : List Entry) (n : ℕ) (files : Content) (file : WatchedFile) (place : ℕ) : Type 0 where
      pub first : List Entry
      pub later : List Entry
      pub parts : told ≡ first ++ later
      pub unopened : NoOpening later
      pub none_yet : rows_by n first ≡ []
      pub image : Image
      pub sound : PositionSound listening sources makes first files image file
      pub place_is : sound.position ≡ place

-- Each position that a step records, or may have recorded, agrees with what was told before the step: in whatever a stop leaves that has it.
abbrev pub RecordedPositionsStand : (makes : Makes) (listening : Listening) (bytes : Bytes) (places : Places) → Type 0
RecordedPositionsStand makes listening bytes places =
    (sources : Sources) (earlier : List Entry) (deeds : List Deed) (came : ℕ → List Incoming) (i : LineView places) (x : Step makes listening bytes i) (f : FileAt) (files : Content)
    (begins : ℕ → List ℕ → ℕ) (file : WatchedFile) (image : Image)
    → LineStands makes listening bytes places earlier deeds came i → IsIn f (effect makes listening bytes i x).recorded → LinesAreRead listening sources i came files begins
    → ((v : InputView) → IsIn v i.inputs → v.is_open ≡ true → listening.address v.statement ≡ None → sources.watches v.statement f.path ≡ true
    → BeganAt listening sources makes (told_of deeds) v.number files file (begins v.number f.path))
    → file.path ≡ f.path → IsPosition file.base (recorded_in (bytes_of (image file.slot).file)) f.behind → PositionSound listening sources makes (told_of deeds) files image file
