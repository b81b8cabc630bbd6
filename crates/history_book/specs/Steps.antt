-- What was told since a pipeline was last opened, and what that alone gave to stdout and boxes.
use Rattle.std.specs.Prelude.{ℕ, List, [], ◌∷◌, ◌++◌, flat_map, if◌then◌else◌, ⊤}
use Rattle.event_tree.specs.Events.{Ev}
use Rattle.foreign_parts.specs.Delivering.{taken}
use Rattle.event_flow.specs.Meaning.{Makes}
use Rattle.history_book.specs.Contents.{Bytes, next_bytes, is_stdout, is_box}
use Rattle.history_book.specs.Entries.{Entry, Deliver, Opened}
use Rattle.history_book.specs.States.{State, start, out_of, next}

-- an entry, and where the pipeline stood before it
pub record Step : Type 0 where
  pub before : State
  pub entry : Entry

-- one more; an opening leaves none
abbrev pub one_more : List Step → State → Entry → List Step
one_more steps s (Opened rows limit policy) = []
one_more steps s e = steps ++ record { before = s; entry = e } ∷ []

-- no entry is an opening
abbrev pub NoOpening : List Entry → Type 0
NoOpening [] = ⊤
NoOpening (Opened rows limit policy ∷ told) = ⊥
NoOpening (e ∷ told) = NoOpening told

-- the events of a delivery to this box that it took
abbrev pub given_in : ℕ → Entry → List Ev
given_in number (Deliver batch at events fates) = if is_box number at then taken fates events else []
given_in number e = []

-- the bytes of a delivery to stdout
abbrev pub printed_in : Bytes → State → Entry → List ℕ
printed_in bytes s (Deliver batch at events fates) = next_bytes bytes is_stdout (out_of batch s.out)
printed_in bytes s e = []

module _ (makes : Makes) where
  -- behind these, those of the entries that are told where the pipeline stands so
  abbrev pub steps : State → List Step → List Entry → List Step
  steps s old [] = old
  steps s old (e ∷ told) = steps (next makes s e) (one_more old s e) told

  -- since the pipeline was last opened
  abbrev pub steps_of : List Entry → List Step
  steps_of told = steps start [] told

  -- what this pipeline gave to stdout then, and the events that a box took of it
  abbrev pub printed : Bytes → List Entry → List ℕ
  printed bytes told = flat_map (λ step. printed_in bytes step.before step.entry) (steps_of told)

  abbrev pub given : ℕ → List Entry → List Ev
  given number told = flat_map (λ step. given_in number step.entry) (steps_of told)
