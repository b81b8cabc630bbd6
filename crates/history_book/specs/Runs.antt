-- When all that stands around the pipelines of a run agrees with what they did.
use Rattle.std.specs.Prelude.{◌≡◌, ◌⊎◌, ◌≤◌, ℕ, List, [], ◌++◌, Option, Some, None, ⊤}
use Rattle.io_traits.specs.Folders.{Content}
use Rattle.io_traits.specs.Images.{Image}
use Rattle.event_tree.specs.Events.{Ev}
use Rattle.event_flow.specs.Meaning.{Makes}
use Rattle.event_flow.specs.Meaning as due
use Rattle.foreign_parts.specs.Delivering.{taken}
use Rattle.foreign_parts.specs.declared.place.Place.TheVariants as place
use Rattle.history_book.specs.Contents.{Bytes}
use Rattle.history_book.specs.Deeds.{DeedOf, told_by, AreTold}
use Rattle.history_book.specs.Entries.{Entry}
use Rattle.history_book.specs.Givings.{StdoutTook, BoxTook, WasDone, NoneOpened}
use Rattle.history_book.specs.Laws.{fates_of}
use Rattle.history_book.specs.Links.{Listening, Link, IsSettledRow}
use Rattle.history_book.specs.Lists.{IsIn}
use Rattle.history_book.specs.Sound.{Places, LineSound}
use Rattle.history_book.specs.Sources.{SourceLook, Sources, InputsSound}
use Rattle.history_book.specs.States.{Plan, Written}
use Rattle.history_book.specs.Watched.{WatchedFile, PositionSound}
use Rattle.history_book.specs.Yards.{AreSteps, all_done, StandsOver}

-- what the program was told of configurations: what filters make of events, the bytes of events, what statements of inputs say, and what inputs make of their looks
pub record Meanings : Type 0 where
  pub makes : Makes
  pub bytes : Bytes
  pub listening : Listening
  pub sources : Sources

-- What stood there at first: of each pipeline where it keeps what it holds, with what its files and its dead letters held, and the files that it watches, each with its
-- base position; and what stdout and each box held when a call began that opened pipelines over them.
pub record Bases : Type 0 where
  pub places : ℕ → Places
  pub watched : ℕ → List WatchedFile
  pub stdout : List ℕ
  pub boxes : ℕ → List Ev

-- what stdout and each box hold
pub record Outputs : Type 0 where
  pub stdout : List ℕ
  pub boxes : ℕ → List Ev

-- What stands around the pipelines: what a stop leaves of the store of each, the watched files, the looks of each pipeline's inputs by their numbers, and the outputs. A
-- pipeline has no looks from a stop on until it is opened, and there are no outputs until one is opened over them.
pub record Around : Type 0 where
  pub images : ℕ → Image
  pub files : Content
  pub looks : ℕ → Option (ℕ → List SourceLook)
  pub outputs : Option Outputs

module _ (m : Meanings) (bases : Bases) where
  -- what stdout and a box took is what they hold behind their bases
  pub record TookSo (done : List DeedOf) (o : Outputs) : Type 0 where
    pub printed : List ℕ
    pub stdout_is : o.stdout ≡ bases.stdout ++ printed
    pub stdout : StdoutTook m.makes m.bytes done printed
    pub given : ℕ → List Ev
    pub boxes_are : (n : ℕ) → o.boxes n ≡ bases.boxes n ++ given n
    pub boxes : (n : ℕ) → BoxTook m.makes n done (given n)

  abbrev pub OutputsSound : List DeedOf → Option Outputs → Type 0
  OutputsSound done None = ⊤
  OutputsSound done (Some o) = TookSo done o

  -- One pipeline, by what it told, by what a stop leaves of its store, and by its watched files.
  pub record PipelineSound (k : ℕ) (told : List Entry) (files : Content) (i : Image) : Type 0 where
    pub line : LineSound m.makes m.bytes (bases.places k) told i
    pub positions : (file : WatchedFile) → IsIn file (bases.watched k) → PositionSound m.listening m.sources m.makes told files i file

  -- All pipelines, which did this in steps behind what they told in earlier runs: each by itself, the links between them behind each step, of which these stand behind the
  -- last, what came to inputs, and what outputs took.
  pub record RunSound (first : List DeedOf) (steps : List (List DeedOf)) (around : Around) : Type 0 where
    pub entries : AreTold first
    pub pipelines : (k : ℕ) → PipelineSound k (told_by k (first ++ all_done steps)) around.files (around.images k)
    pub last : List Link
    pub links : AreSteps m.makes m.listening first [] [] steps last
    pub inputs : (k : ℕ) (looks : ℕ → List SourceLook) → around.looks k ≡ Some looks → InputsSound m.makes m.listening m.sources (told_by k (first ++ all_done steps)) looks
    pub outputs : OutputsSound (first ++ all_done steps) around.outputs

-- ---- laws

-- what stands of a pipeline where a run agrees with what stands around it
abbrev pub line_in : (m : Meanings) (bases : Bases) (first : List DeedOf) (steps : List (List DeedOf)) (around : Around) → RunSound m bases first steps around → (k : ℕ)
    → LineSound m.makes m.bytes (bases.places k) (told_by k (first ++ all_done steps)) (around.images k)
line_in m bases first steps around sound k = (sound.pipelines k).line

-- A row that was settled at some moment stands unacknowledged in the queue of its pipeline, or all stands that its configuration derives from it, in files, in the dead
-- letters and in other pipelines, over any number of links.
abbrev pub SettledRowsStand : Type 0
SettledRowsStand =
    (m : Meanings) (bases : Bases) (first : List DeedOf) (steps : List (List DeedOf)) (around : Around) (sound : RunSound m bases first steps around) (links k : ℕ) (before rest : List Entry)
    (w : Written) → told_by k (first ++ all_done steps) ≡ before ++ rest → IsSettledRow m.makes before w
    → StandsOver m.makes m.listening m.bytes bases.places around.images first (all_done steps) (λ n. (line_in m bases first steps around sound n).rows) links k w

-- What was delivered to stdout since any pipeline was last opened stands in what it holds, and so do the events that a box took.
abbrev pub StdoutHolds : Type 0
StdoutHolds =
    (m : Meanings) (bases : Bases) (first : List DeedOf) (steps : List (List DeedOf)) (around : Around) (o : Outputs) → RunSound m bases first steps around → around.outputs ≡ Some o
    → (k : ℕ) (plan : Plan) (id : List ℕ) (events : List Ev) → (w : WasDone m.makes (first ++ all_done steps) k plan (due.Events id place.Stdout events)) → NoneOpened w.rest
    → (front : List ℕ) × (back : List ℕ) × (o.stdout ≡ front ++ m.bytes plan.config id events ++ back)

abbrev pub BoxesHold : Type 0
BoxesHold =
    (m : Meanings) (bases : Bases) (first : List DeedOf) (steps : List (List DeedOf)) (around : Around) (o : Outputs) → RunSound m bases first steps around → around.outputs ≡ Some o
    → (k n : ℕ) (plan : Plan) (id : List ℕ) (events : List Ev) → (w : WasDone m.makes (first ++ all_done steps) k plan (due.Events id (place.Foreign n) events)) → NoneOpened w.rest
    → (front : List Ev) × (back : List Ev) × (o.boxes n ≡ front ++ taken (fates_of w.entry) events ++ back)
