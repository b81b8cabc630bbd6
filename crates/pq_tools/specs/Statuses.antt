-- The statuses of the tools: their numbers, their texts, and the lines that they print.
use Rattle.std.specs.Prelude.{ℕ, Bool, true, false, List, [], ◌∷◌, ◌++◌, codes}
use Rattle.std.specs.Fmt.{decimal}
use Rattle.io_traits.specs.declared.queue_faults.Damage.{Damage}
use Rattle.logstash_settings.specs.Texts.{words_fault_text}
use Rattle.pq_tools.specs.declared.status.ToolStatus.{ToolStatus}
use Rattle.pq_tools.specs.declared.status.ToolStatus.TheVariants as s

abbrev pub number_of : ToolStatus → ℕ
number_of s.Done = 0
number_of (s.BadWords fault) = 1
number_of (s.StoreFault id) = 4
number_of s.OutputFault = 6
number_of (s.Damaged id damage) = 7
number_of s.NoMemory = 8
number_of (s.NumbersSpent id) = 11
number_of (s.NotNew folder) = 14

-- ---- texts

abbrev pub of_pipeline : List ℕ → List ℕ → List ℕ
of_pipeline id text = codes "pipeline " ++ (id ++ (codes ": " ++ text))

abbrev pub damage_text : Damage → List ℕ
damage_text d =
    codes "damaged " ++ (d.file ++ (codes " at " ++ (decimal d.place ++ (codes ": found " ++ (decimal d.found ++ (codes ", expected " ++ decimal d.expected))))))

abbrev pub status_text : ToolStatus → List ℕ
status_text s.Done = codes "done"
status_text (s.BadWords fault) = codes "words: " ++ words_fault_text fault
status_text (s.StoreFault id) = of_pipeline id (codes "store fault")
status_text s.OutputFault = codes "output fault stdout"
status_text (s.Damaged id damage) = of_pipeline id (damage_text damage)
status_text s.NoMemory = codes "no memory"
status_text (s.NumbersSpent id) = of_pipeline id (codes "numbers spent")
status_text (s.NotNew folder) = codes "not new " ++ folder

-- ---- lines

-- how many rows a queue has
abbrev pub rows_line : ℕ → List ℕ
rows_line count = codes "rows " ++ (decimal count ++ 10 ∷ [])

abbrev pub status_line : ToolStatus → List ℕ
status_line status = codes "logstash: " ++ (status_text status ++ 10 ∷ [])

-- ---- which they are

-- a call of the store failed
abbrev pub is_store_fault : ToolStatus → Bool
is_store_fault (s.StoreFault id) = true
is_store_fault s.Done = false
is_store_fault (s.BadWords fault) = false
is_store_fault s.OutputFault = false
is_store_fault (s.Damaged id damage) = false
is_store_fault s.NoMemory = false
is_store_fault (s.NumbersSpent id) = false
is_store_fault (s.NotNew folder) = false
