-- What comes to the inputs of a pipeline, by the looks that they make at their sources.
use Rattle.std.specs.Prelude.{◌≡◌, ℕ, ◌==◌, Bool, true, List, [], ◌∷◌, ◌++◌, map, flat_map, None, if◌then◌else◌}
use Rattle.event_tree.specs.Events.{Ev}
use Rattle.config_tree.specs.declared.tree.Plugin.{Plugin}
use Rattle.event_flow.specs.Meaning.{Makes}
use Rattle.in_lines.specs.Polls.{Poll}
use Rattle.history_book.specs.Entries.{Entry, Accept}
use Rattle.history_book.specs.Inputs.{Input, IsInput}
use Rattle.history_book.specs.Links.{Listening}
use Rattle.history_book.specs.States.{start, after}
use Rattle.history_book.specs.Steps.{steps_of}

-- Where an input looks: at the one source that it has, at a connection, by its number, or at a file that it watches.
pub data LookSource : Type 0 where
  Alone : LookSource
  Connection : (number : ℕ) → LookSource
  Watched : (path : List ℕ) → LookSource

-- a look at a source, and what it brought
pub record SourceLook : Type 0 where
  pub source : LookSource
  pub poll : Poll

-- What an input of a statement makes of the looks that it made since it was opened: the events that these give, in order, before its own settings act on
-- them, and whether nothing comes any more. And of files: whether it watches the one of this path, and where it begins to read one that has these bytes and of which
-- no position is recorded.
pub record Sources : Type 0 where
  pub gives : Plugin → List SourceLook → List Ev
  pub ends : Plugin → List SourceLook → Bool
  pub watches : Plugin → List ℕ → Bool
  pub begins : Plugin → List ℕ → ℕ

-- an event that was accepted by the input of this number, and came in no parcel
abbrev pub came_in : ℕ → Entry → List Ev
came_in n (Accept input None number event) = if n == input then event ∷ [] else []
came_in n e = []

-- those since the pipeline was last opened
abbrev pub came_by : Makes → ℕ → List Entry → List Ev
came_by makes n told = flat_map (λ step. came_in n step.entry) (steps_of makes told)

module _ (makes : Makes) (listening : Listening) (sources : Sources) (told : List Entry) where
  -- What the looks of an input gave is what was accepted of it, as its settings make it, and then what it holds.
  pub record InputSound (looks : List SourceLook) (x : Input) : Type 0 where
    pub accepted : List Ev
    pub held : List Ev
    pub gave : sources.gives x.statement looks ≡ accepted ++ held
    pub came : came_by makes x.number told ≡ map (listening.applies x.statement) accepted

  -- Nothing comes to an input any more, and each event that came was accepted: nothing is held.
  pub record IsReadOut (looks : List SourceLook) (x : Input) : Type 0 where
    pub ended : sources.ends x.statement looks ≡ true
    pub came : came_by makes x.number told ≡ map (listening.applies x.statement) (sources.gives x.statement looks)

  -- So it is with each open input that listens on no address, by the looks of each number.
  abbrev pub InputsSound : (ℕ → List SourceLook) → Type 0
  InputsSound looks =
      (x : Input) → IsInput (after makes start told).plans x.number x → x.is_open ≡ true → listening.address x.statement ≡ None → InputSound (looks x.number) x
