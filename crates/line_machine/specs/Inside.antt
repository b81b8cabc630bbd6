-- What a stop within a step of a line leaves stands inside a run.
use Rattle.std.specs.Prelude.{◌≡◌, ◌⊎◌, ℕ, true, List, ◌++◌, None}
use Rattle.io_traits.specs.Folders.{Content}
use Rattle.io_traits.specs.Images.{Image}
use Rattle.io_traits.specs.Reads.{bytes_of}
use Rattle.slot_files.specs.Positions.{recorded_in}
use Rattle.history_book.specs.Deeds.{Deed, told_of, tell_all}
use Rattle.history_book.specs.Entries.{Entry}
use Rattle.history_book.specs.Lists.{IsIn}
use Rattle.history_book.specs.Premises.{OnlyGrows, StandsInside}
use Rattle.history_book.specs.Runs.{Meanings, Bases}
use Rattle.history_book.specs.Watched.{WatchedFile, IsPosition, PositionSound}
use Rattle.line_machine.specs.declared.calls.Call.{Call}
use Rattle.line_machine.specs.Answers.{Did}
use Rattle.line_machine.specs.Doing.{deeds_of}
use Rattle.line_machine.specs.Effects.{Effect, MayLeave}
use Rattle.line_machine.specs.Lines.{LineStands, deeds_of_call}
use Rattle.line_machine.specs.Positions.{LinesAreRead, BeganAt}
use Rattle.line_machine.specs.Steps.{Step, effect}
use Rattle.line_machine.specs.Views.{FileAt, Incoming, InputView, LineView}

-- Of a line that did this behind what was told in earlier runs: where the recorded positions agree with what was told before a step, whatever a stop within the step leaves
-- agrees with what was told up to some moment of it, and each delivery to an address counts among that only where its answer was taken before.
abbrev pub StepsStandInside : Type 0
StepsStandInside =
    (m : Meanings) (bases : Bases) (k : ℕ) (earlier : List Entry) (since : List Deed) (came : ℕ → List Incoming) (i : LineView (bases.places k)) (x : Step m.makes m.listening m.bytes i) (files : Content)
    (image : Image) → LineStands m.makes m.listening m.bytes (bases.places k) earlier (tell_all earlier ++ since) came i
    → MayLeave m.makes m.bytes (bases.places k) (told_of (tell_all earlier ++ since)) i (effect m.makes m.listening m.bytes i x) image
    → ((file : WatchedFile) → IsIn file (bases.watched k) → PositionSound m.listening m.sources m.makes (earlier ++ told_of since) files image file)
    → StandsInside m bases k earlier (since ++ deeds_of m.makes m.listening m.bytes (bases.places k) i x) files image

-- so it is within each call
abbrev pub CallsStandInside : Type 0
CallsStandInside =
    (m : Meanings) (bases : Bases) (k : ℕ) (earlier : List Entry) (since : List Deed) (came : ℕ → List Incoming) (i : LineView (bases.places k)) (x : Call) (e : Effect (bases.places k)) (files : Content)
    (image : Image) → LineStands m.makes m.listening m.bytes (bases.places k) earlier (tell_all earlier ++ since) came i → (did : Did m.makes m.listening m.bytes x i e)
    → MayLeave m.makes m.bytes (bases.places k) (told_of (tell_all earlier ++ since)) i e image
    → ((file : WatchedFile) → IsIn file (bases.watched k) → PositionSound m.listening m.sources m.makes (earlier ++ told_of since) files image file)
    → StandsInside m bases k earlier (since ++ deeds_of_call m.makes m.listening m.bytes (bases.places k) x i e did) files image

-- What stood inside a run does so whatever was done behind it, and however watched files grow.
abbrev pub InsideStays : Type 0
InsideStays =
    (m : Meanings) (bases : Bases) (k : ℕ) (earlier : List Entry) (deeds later : List Deed) (old new : Content) (image : Image) → OnlyGrows old new → StandsInside m bases k earlier deeds old image
    → StandsInside m bases k earlier (deeds ++ later) new image

-- ---- positions

module _ (m : Meanings) (bases : Bases) (k : ℕ) (files : Content) where
  -- What a stop leaves of the recorded position of a file: one that agreed with what was told before, or a place in the file that was recorded.
  abbrev pub LeavesPosition : List Entry → List FileAt → Image → WatchedFile → Type 0
  LeavesPosition told recorded image file =
      ((old : Image) × PositionSound m.listening m.sources m.makes told files old file × (recorded_in (bytes_of (image file.slot).file) ≡ recorded_in (bytes_of (old file.slot).file)))
      ⊎ ((f : FileAt) × IsIn f recorded × (file.path ≡ f.path) × IsPosition file.base (recorded_in (bytes_of (image file.slot).file)) f.behind)

  -- The lines of a line of the machine are those of the files, from where its inputs began to read them.
  pub record FilesAreRead (told : List Entry) (came : ℕ → List Incoming) (i : LineView (bases.places k)) : Type 0 where
    pub begins : ℕ → List ℕ → ℕ
    pub lines : LinesAreRead m.listening m.sources i came files begins
    pub began : (file : WatchedFile) → IsIn file (bases.watched k) → (v : InputView) → IsIn v i.inputs → v.is_open ≡ true → m.listening.address v.statement ≡ None
        → m.sources.watches v.statement file.path ≡ true → BeganAt m.listening m.sources m.makes told v.number files file (begins v.number file.path)

-- Whatever a stop within a step or a call of a line leaves, of its places and of the positions that it records, stands inside.
abbrev pub StopsStandInside : Type 0
StopsStandInside =
    (m : Meanings) (bases : Bases) (k : ℕ) (earlier : List Entry) (since : List Deed) (came : ℕ → List Incoming) (i : LineView (bases.places k)) (x : Call) (e : Effect (bases.places k)) (files : Content)
    (image : Image) → LineStands m.makes m.listening m.bytes (bases.places k) earlier (tell_all earlier ++ since) came i → FilesAreRead m bases k files (earlier ++ told_of since) came i
    → (did : Did m.makes m.listening m.bytes x i e) → MayLeave m.makes m.bytes (bases.places k) (told_of (tell_all earlier ++ since)) i e image
    → ((file : WatchedFile) → IsIn file (bases.watched k) → LeavesPosition m bases k files (earlier ++ told_of since) e.recorded image file)
    → StandsInside m bases k earlier (since ++ deeds_of_call m.makes m.listening m.bytes (bases.places k) x i e did) files image
