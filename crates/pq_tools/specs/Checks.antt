-- What a check of a queue answers and prints.
use Rattle.std.specs.Prelude.{◌≡◌, ◌⊎◌, ℕ, List, [], length, Result, Ok, Err, ⊤}
use Rattle.io_traits.specs.Folders.{Content}
use Rattle.io_traits.specs.Telling.{Grows, GrowsInPart, IsFlushed}
use Rattle.io_traits.specs.declared.sinks.Sink.{Ghosts as SinkWords}
use Rattle.io_traits.specs.declared.queue_faults.Damage.{Damage}
use Rattle.io_traits.specs.declared.queue_faults.QueueFault.{QueueFault}
use Rattle.io_traits.specs.declared.queue_faults.QueueFault.TheVariants as f
use Rattle.queue_files.specs.Folders.{Names, names_in}
use Rattle.queue_files.specs.Found.{Damaged, Found, found}
use Rattle.queue_files.specs.Marks.{read_in}
use Rattle.pq_tools.specs.Orders.{Ordered}
use Rattle.pq_tools.specs.Statuses.{rows_line, status_line}
use Rattle.pq_tools.specs.declared.orders.ToolOrder.{ToolOrder}
use Rattle.pq_tools.specs.declared.status.ToolStatus.{ToolStatus}
use Rattle.pq_tools.specs.declared.status.ToolStatus.TheVariants as s

-- ---- what is said of a folder

-- how many rows it holds, or how it is damaged
abbrev pub Said : Type 0
Said = Result ℕ Damage

-- with the name of the file
abbrev pub damage_of : Names → Damaged → Damage
damage_of names (role, m) = record { file = names role; place = m.place; found = m.found; expected = m.expected }

abbrev pub said_of : Names → Result Found Damaged → Said
said_of names (Ok found) = Ok (length found.rows)
said_of names (Err damaged) = Err (damage_of names damaged)

-- of the folder of this path
abbrev pub said_in : List ℕ → Content → Said
said_in folder content = said_of (names_in folder) (found (read_in (names_in folder) content))

-- this was said, unless memory or the store failed
abbrev pub Counts : Result ℕ QueueFault → Said → Type 0
Counts (Ok count) said = said ≡ Ok count
Counts (Err (f.Damaged damage)) said = said ≡ Err damage
Counts (Err f.Fault) said = ⊤
Counts (Err f.Memory) said = ⊤

-- ---- what a check tells of it

abbrev pub status_of : List ℕ → Said → ToolStatus
status_of id (Ok count) = s.Done
status_of id (Err damage) = s.Damaged id damage

abbrev pub line_of : List ℕ → Said → List ℕ
line_of id (Ok count) = rows_line count
line_of id (Err damage) = status_line (s.Damaged id damage)

module _ {O : Type 0} (sink : SinkWords O) where
  -- the output took nothing
  abbrev pub PrintsNone : O → O → Type 0
  PrintsNone old new = Grows (sink.taken old) (sink.taken new) []

  -- it took this line, and all that it took is flushed; or it failed, and took a first part of the line
  abbrev pub Prints : List ℕ → ToolStatus → O → O → ToolStatus → Type 0
  Prints line done old new status =
      ((status ≡ done) × Grows (sink.taken old) (sink.taken new) line × IsFlushed (sink.taken new) (sink.flushed new))
      ⊎ ((status ≡ s.OutputFault) × GrowsInPart (sink.taken old) (sink.taken new) line)

  -- the same, unless memory runs out before
  abbrev pub PrintsOr : List ℕ → ToolStatus → O → O → ToolStatus → Type 0
  PrintsOr line done old new status = ((status ≡ s.NoMemory) × PrintsNone old new) ⊎ Prints line done old new status

  -- What was said of the queue is told; or nothing was said, since the store failed, or memory ran out.
  abbrev pub Tells : List ℕ → (Said → Type 0) → O → O → ToolStatus → Type 0
  Tells id IsSaid old new status =
      (((status ≡ s.StoreFault id) ⊎ (status ≡ s.NoMemory)) × PrintsNone old new) ⊎ ((said : Said) × IsSaid said × Prints (line_of id said) (status_of id said) old new status)

  -- How a check ends that words order, where this is what the folder of the queue says.
  abbrev pub ChecksAs : Ordered → (ToolOrder → Said → Type 0) → O → O → ToolStatus → Type 0
  ChecksAs (Ok order) says old new status = Tells order.id (says order) old new status
  ChecksAs (Err why) says old new status = ((status ≡ s.BadWords why) ⊎ (status ≡ s.NoMemory)) × PrintsNone old new
