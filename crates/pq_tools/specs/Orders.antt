-- The queue that the words of a command line order a tool for.
use Rattle.std.specs.Prelude.{◌≡◌, ◌⊎◌, ℕ, List, ◌++◌, codes, Option, Some, None, Result, Ok, Err}
use Rattle.settings_lines.specs.declared.orders.QueueTool.{QueueTool}
use Rattle.settings_lines.specs.declared.orders.QueueTool.TheVariants as tool
use Rattle.logstash_settings.specs.Words.{Answer}
use Rattle.logstash_settings.specs.declared.fault.WordsFault.{WordsFault}
use Rattle.logstash_settings.specs.declared.fault.WordsFault.TheVariants as fault
use Rattle.pq_tools.specs.declared.orders.ToolOrder.{ToolOrder}
use Rattle.pq_tools.specs.declared.status.ToolStatus.{ToolStatus}
use Rattle.pq_tools.specs.declared.status.ToolStatus.TheVariants as s

-- a folder below that of the queues, with the id of a pipeline and this behind
abbrev pub folder_of : List ℕ → List ℕ → List ℕ → List ℕ
folder_of path id behind = path ++ (codes "/" ++ (id ++ behind))

-- the queue of this id, with its folder, and the one into which a repair writes
abbrev pub order_of : List ℕ → List ℕ → ToolOrder
order_of path id = record { id = id; folder = folder_of path id (codes "/"); repaired = folder_of path id (codes ".repaired/") }

-- ---- what words order

abbrev pub Ordered : Type 0
Ordered = Result ToolOrder WordsFault

abbrev pub checked_by : List ℕ → Option QueueTool → Ordered
checked_by path (Some (tool.Check id)) = Ok (order_of path id)
checked_by path (Some (tool.Repair id)) = Err fault.Unread
checked_by path None = Err fault.Unread

-- the queue that is to be checked, or why the words are refused
abbrev pub checked : Answer → Ordered
checked (Ok orders) = checked_by orders.path_data orders.tool
checked (Err why) = Err why

abbrev pub repaired_by : List ℕ → Option QueueTool → Ordered
repaired_by path (Some (tool.Check id)) = Err fault.Unread
repaired_by path (Some (tool.Repair id)) = Ok (order_of path id)
repaired_by path None = Err fault.Unread

-- the queue that is to be repaired, or why the words are refused
abbrev pub repaired : Answer → Ordered
repaired (Ok orders) = repaired_by orders.path_data orders.tool
repaired (Err why) = Err why

-- the status of refused words
abbrev pub or_refused : Ordered → Result ToolOrder ToolStatus
or_refused (Ok order) = Ok order
or_refused (Err why) = Err (s.BadWords why)

-- the queue, or the refusal, unless memory ran out
abbrev pub Orders : Ordered → Result ToolOrder ToolStatus → Type 0
Orders ordered result = (result ≡ or_refused ordered) ⊎ (result ≡ Err s.NoMemory)
