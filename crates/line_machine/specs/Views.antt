-- What a line keeps between its calls, as plain data.
use Rattle.std.specs.Prelude.{ℕ, ◌==◌, Bool, List, [], ◌∷◌, map, Option, Some, None, if◌then◌else◌}
use Rattle.event_tree.specs.Events.{Ev}
use Rattle.config_tree.specs.declared.tree.Plugin.{Plugin}
use Rattle.event_flow.specs.Meaning.{Due}
use Rattle.foreign_parts.specs.declared.filter.Verdict.{Verdict}
use Rattle.queue_files.specs.Found.{Row}
use Rattle.history_book.specs.Holdings.{Holdings}
use Rattle.history_book.specs.Inputs.{Input}
use Rattle.history_book.specs.Sound.{Places}
use Rattle.history_book.specs.States.{Limits, Plan}
use Rattle.line_machine.specs.Ends.{TakerView, SenderView}

-- A kit of compiled filters: the generation whose configuration it was made of, its number there, how many of its patterns and filters were read from
-- text, and the numbers of its boxes.
pub record Kit : Type 0 where
  pub generation : ℕ
  pub number : ℕ
  pub built : ℕ
  pub boxes : List ℕ

-- a box to which outputs deliver: the generation whose configuration has it, and its number
pub record Box : Type 0 where
  pub generation : ℕ
  pub number : ℕ

-- a place in a watched file: its path, and how many bytes stand before the place
pub record FileAt : Type 0 where
  pub path : List ℕ
  pub behind : ℕ

-- an event that came by an input, before the settings of that act on it; and, of a watched file, the place behind its line
pub record Incoming : Type 0 where
  pub event : Ev
  pub at : Option FileAt

-- the row of such an event
pub record RowAt : Type 0 where
  pub number : ℕ
  pub at : Option FileAt

-- An input: its number, its statement and its id; whether the newest configuration has it; of an input that listens on no address the events that came and aren't
-- accepted yet, whether nothing comes any more, and its rows of which it wasn't told yet that they are settled.
pub record InputView : Type 0 where
  pub number : ℕ
  pub statement : Plugin
  pub id : List ℕ
  pub is_open : Bool
  pub held : List Incoming
  pub ended : Bool
  pub rows : List RowAt

-- events that a box took, by its number
pub record Given : Type 0 where
  pub box : ℕ
  pub events : List Ev

-- A batch that is out: the configuration under which it was read, and its rows; once it is back, the verdicts that were used, and of what is due of it what is left;
-- until then the kit that is out with it; and the number of the parcel in which its next delivery was sent.
pub record Batch : Type 0 where
  pub number : ℕ
  pub plan : Plan
  pub rows : List Row
  pub verdicts : Option (List Verdict)
  pub left : List Due
  pub kit : Option Kit
  pub parcel : Option ℕ

-- A line: the newest configuration; what its dead letters may hold, how many rows a batch may have, and how many workers run its batches; its queue, its files and its dead letters; the rows
-- that the queue gives next, and before them those of a batch for which there was no memory; the batches that are out, and the number of the next one; the
-- kits at home, and the boxes of outputs that aren't closed; its inputs, also those that are closed, the ends of links at which they listen, with the place of the
-- next one, and those by which it sends; the front of the last mark since it was opened; whether anything was written or
-- acknowledged since, and how many rows of each, with how many of each make a mark due; whether it was told to stop, and then whether it
-- drains, and the places of the ends of which it goes on to take parcels.
pub record LineView (places : Places) : Type 0 where
  pub plan : Plan
  pub limits : Limits
  pub size : ℕ
  pub workers : ℕ
  pub holds : Holdings places
  pub unread : List Row
  pub kept : List Row
  pub batches : List Batch
  pub next_batch : ℕ
  pub kits : List Kit
  pub boxes : List Box
  pub inputs : List InputView
  pub takers : List TakerView
  pub next_place : ℕ
  pub senders : List SenderView
  pub mark : Option ℕ
  pub uncovered : Bool
  pub written : ℕ
  pub acknowledged : ℕ
  pub due_writes : ℕ
  pub due_acknowledged : ℕ
  pub stopped : Bool
  pub drains : Bool
  pub going : List ℕ

-- ---- inputs

abbrev pub input_of : InputView → Input
input_of v = record { number = v.number; statement = v.statement; id = v.id; is_open = v.is_open }

abbrev pub inputs_of : List InputView → List Input
inputs_of vs = map input_of vs

-- the first with this number
abbrev pub input_at : ℕ → List InputView → Option InputView
input_at n [] = None
input_at n (v ∷ vs) = if n == v.number then Some v else input_at n vs

abbrev pub change_input : (InputView → InputView) → ℕ → List InputView → List InputView
change_input f n [] = []
change_input f n (v ∷ vs) = if n == v.number then f v ∷ vs else v ∷ change_input f n vs

-- ---- batches

abbrev pub batch_of : ℕ → List Batch → Option Batch
batch_of n [] = None
batch_of n (b ∷ bs) = if n == b.number then Some b else batch_of n bs

abbrev pub change_batch : (Batch → Batch) → ℕ → List Batch → List Batch
change_batch f n [] = []
change_batch f n (b ∷ bs) = if n == b.number then f b ∷ bs else b ∷ change_batch f n bs

abbrev pub without_batch : ℕ → List Batch → List Batch
without_batch n [] = []
without_batch n (b ∷ bs) = if n == b.number then bs else b ∷ without_batch n bs

abbrev pub events_in : List Row → List Ev
events_in rows = map (λ r. r.event) rows
