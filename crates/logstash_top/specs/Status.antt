-- The statuses, their numbers and their lines on stderr.
use Rattle.std.specs.Prelude.{ℕ, List, [], ◌++◌, codes, decimal, Option, Some, None}
use Rattle.logstash_top.specs.declared.status.Status.{Status}
use Rattle.logstash_top.specs.declared.status.Status.TheVariants.{Done, BadWords, WordsNotBuilt, BadConfig, Refused, NotBuilt, StoreFault, InputFault, OutputFault, Damaged, NoMemory, FilesFault, NumbersSpent, DeadLettersFull}
use Rattle.logstash_settings.specs.declared.fault.WordsFault.{WordsFault}
use Rattle.logstash_settings.specs.Texts.{words_fault_text}
use Rattle.config_tree.specs.declared.fault.SettingFault.{SettingFault}
use Rattle.config_tree.specs.declared.fault.SettingFault.TheVariants as setting
use Rattle.graph_checks.specs.declared.fault.GraphFault.{GraphFault}
use Rattle.graph_checks.specs.declared.fault.GraphFault.TheVariants as graph
use Rattle.io_traits.specs.declared.queue_faults.Damage.{Damage}
use Rattle.config_parse.specs.declared.fault.ConfigFault.{ConfigFault}
use Rattle.config_parse.specs.declared.fault.ConfigFault.TheVariants as text_fault

abbrev pub number_of : Status → ℕ
number_of Done = 0
number_of (BadWords fault) = 1
number_of WordsNotBuilt = 1
number_of (BadConfig pipeline fault) = 3
number_of (Refused pipeline fault) = 3
number_of (NotBuilt pipeline) = 3
number_of (StoreFault pipeline) = 4
number_of (InputFault pipeline input) = 5
number_of (OutputFault output) = 6
number_of (Damaged pipeline damage) = 7
number_of NoMemory = 8
number_of (FilesFault path) = 9
number_of (NumbersSpent pipeline) = 11
number_of (DeadLettersFull pipeline size added limit) = 12

-- the line of a refused configuration, with the reason and its place
abbrev pub placed_line : List ℕ → List ℕ → List ℕ → List ℕ
placed_line pipeline reason place = codes "logstash: pipeline " ++ (pipeline ++ (reason ++ (place ++ codes "\n")))

abbrev pub config_line : List ℕ → ConfigFault → List ℕ
config_line pipeline text_fault.Long = codes "logstash: pipeline " ++ (pipeline ++ codes ": long\n")
config_line pipeline (text_fault.Syntax at) = placed_line pipeline (codes ": syntax at ") (decimal at)
config_line pipeline (text_fault.Deep at) = placed_line pipeline (codes ": deep at ") (decimal at)
config_line pipeline text_fault.Memory = codes "logstash: no memory\n"

-- the line of a configuration that is refused as a whole
abbrev pub whole_line : List ℕ → List ℕ → List ℕ
whole_line pipeline reason = codes "logstash: pipeline " ++ (pipeline ++ reason)

-- the line of a setting that is refused, by the id of its plugin or its condition
abbrev pub named_line : List ℕ → List ℕ → List ℕ → List ℕ → List ℕ
named_line pipeline id reason name = codes "logstash: pipeline " ++ (pipeline ++ (codes ": " ++ (id ++ (reason ++ (name ++ codes "\n")))))

abbrev pub setting_line : List ℕ → List ℕ → SettingFault → List ℕ
setting_line pipeline id (setting.Missing name) = named_line pipeline id (codes ": missing ") name
setting_line pipeline id (setting.Unknown name) = named_line pipeline id (codes ": unknown ") name
setting_line pipeline id (setting.WrongKind name) = named_line pipeline id (codes ": wrong kind ") name
setting_line pipeline id (setting.BadPattern name) = named_line pipeline id (codes ": bad pattern ") name

-- the line of a name of which fewer boxes are left than are wanted
abbrev pub spare_line : List ℕ → List ℕ → ℕ → ℕ → List ℕ
spare_line pipeline name wanted left =
    codes "logstash: pipeline " ++ (pipeline ++ (codes ": no spare " ++ (name ++ (codes ": " ++ (decimal wanted ++ (codes " wanted, " ++ (decimal left ++ codes " left\n")))))))

-- the line of a configuration that fails a check
abbrev pub refused_line : List ℕ → GraphFault → List ℕ
refused_line pipeline (graph.UnknownPlugin name) = placed_line pipeline (codes ": unknown plugin ") name
refused_line pipeline (graph.Setting id fault) = setting_line pipeline id fault
refused_line pipeline (graph.TwiceId id) = placed_line pipeline (codes ": twice id ") id
refused_line pipeline (graph.TwicePath path) = placed_line pipeline (codes ": twice path ") path
refused_line pipeline (graph.TwiceAddress address) = placed_line pipeline (codes ": twice address ") address
refused_line pipeline graph.TwiceStdin = whole_line pipeline (codes ": twice stdin\n")
refused_line pipeline (graph.PathLong path) = placed_line pipeline (codes ": path long ") path
refused_line pipeline graph.NoInput = whole_line pipeline (codes ": no input\n")
refused_line pipeline graph.NoOutput = whole_line pipeline (codes ": no output\n")
refused_line pipeline (graph.NoSpare name wanted left) = spare_line pipeline name wanted left
refused_line pipeline graph.Memory = codes "logstash: no memory\n"

-- the line of refused words, with the reason
abbrev pub words_line : WordsFault → List ℕ
words_line fault = codes "logstash: words: " ++ (words_fault_text fault ++ codes "\n")

-- the line of a damaged file, by its place and the numbers that differ
abbrev pub damaged_line : List ℕ → Damage → List ℕ
damaged_line pipeline damage =
    codes "logstash: pipeline " ++ (pipeline ++ (codes ": damaged " ++ (damage.file ++ (codes " at " ++ (decimal damage.place ++ (codes ": found " ++ (decimal damage.found ++ (codes ", expected " ++ (decimal damage.expected ++ codes "\n")))))))))

-- the line of a configuration whose text isn't there
abbrev pub files_line : Option (List ℕ) → List ℕ
files_line None = codes "logstash: files fault\n"
files_line (Some path) = codes "logstash: no file " ++ (path ++ codes "\n")

-- the line of dead letters that have no room
abbrev pub letters_line : List ℕ → ℕ → ℕ → ℕ → List ℕ
letters_line pipeline size added limit =
    codes "logstash: pipeline " ++ (pipeline ++ (codes ": dead letters full: " ++ (decimal size ++ (codes " and " ++ (decimal added ++ (codes " over " ++ (decimal limit ++ codes "\n")))))))

-- the line that stderr gets: none where the call is done
abbrev pub line_of : Status → List ℕ
line_of Done = []
line_of (BadWords fault) = words_line fault
line_of WordsNotBuilt = codes "logstash: words: not built\n"
line_of (BadConfig pipeline fault) = config_line pipeline fault
line_of (Refused pipeline fault) = refused_line pipeline fault
line_of (NotBuilt pipeline) = whole_line pipeline (codes ": not built\n")
line_of (StoreFault pipeline) = whole_line pipeline (codes ": store fault\n")
line_of (InputFault pipeline input) = placed_line pipeline (codes ": input fault ") input
line_of (OutputFault output) = codes "logstash: output fault " ++ (output ++ codes "\n")
line_of (Damaged pipeline damage) = damaged_line pipeline damage
line_of NoMemory = codes "logstash: no memory\n"
line_of (FilesFault path) = files_line path
line_of (NumbersSpent pipeline) = whole_line pipeline (codes ": numbers spent\n")
line_of (DeadLettersFull pipeline size added limit) = letters_line pipeline size added limit

-- the id of the output of a test
abbrev pub test_output_id : List ℕ
test_output_id = codes "stdout"

abbrev pub test_output_fault : Status
test_output_fault = OutputFault test_output_id

-- the status of a configuration that fails a check
abbrev pub status_of_refusal : List ℕ → GraphFault → Status
status_of_refusal pipeline (graph.UnknownPlugin name) = Refused pipeline (graph.UnknownPlugin name)
status_of_refusal pipeline (graph.Setting id fault) = Refused pipeline (graph.Setting id fault)
status_of_refusal pipeline (graph.TwiceId id) = Refused pipeline (graph.TwiceId id)
status_of_refusal pipeline (graph.TwicePath path) = Refused pipeline (graph.TwicePath path)
status_of_refusal pipeline (graph.TwiceAddress address) = Refused pipeline (graph.TwiceAddress address)
status_of_refusal pipeline graph.TwiceStdin = Refused pipeline graph.TwiceStdin
status_of_refusal pipeline (graph.PathLong path) = Refused pipeline (graph.PathLong path)
status_of_refusal pipeline graph.NoInput = Refused pipeline graph.NoInput
status_of_refusal pipeline graph.NoOutput = Refused pipeline graph.NoOutput
status_of_refusal pipeline (graph.NoSpare name wanted left) = Refused pipeline (graph.NoSpare name wanted left)
status_of_refusal pipeline graph.Memory = NoMemory

-- the status of a pipeline's text that is refused
abbrev pub status_of_fault : List ℕ → ConfigFault → Status
status_of_fault pipeline text_fault.Long = BadConfig pipeline text_fault.Long
status_of_fault pipeline (text_fault.Syntax at) = BadConfig pipeline (text_fault.Syntax at)
status_of_fault pipeline (text_fault.Deep at) = BadConfig pipeline (text_fault.Deep at)
status_of_fault pipeline text_fault.Memory = NoMemory

-- the words, or the text of the configuration, are refused, or there is no such text
abbrev pub IsRefused : Status → Type 0
IsRefused Done = ⊥
IsRefused (BadWords fault) = Unit {0}
IsRefused WordsNotBuilt = Unit {0}
IsRefused (BadConfig pipeline fault) = Unit {0}
IsRefused (Refused pipeline fault) = Unit {0}
IsRefused (NotBuilt pipeline) = Unit {0}
IsRefused (StoreFault pipeline) = ⊥
IsRefused (InputFault pipeline input) = ⊥
IsRefused (OutputFault output) = ⊥
IsRefused (Damaged pipeline damage) = ⊥
IsRefused NoMemory = ⊥
IsRefused (FilesFault path) = Unit {0}
IsRefused (NumbersSpent pipeline) = ⊥
IsRefused (DeadLettersFull pipeline size added limit) = ⊥
