-- The statuses of calls that meet no fault, and the lines of statuses.
use Rattle.std.proofs.Common.{◌≡◌, ◌++◌, ℕ, List, Option, Some, codes, decimal, ap, ap₂, sym, ◌∙◌, arith}
use Rattle.io_traits.specs.Counts.{HasCauseUnless}
use Rattle.io_traits.specs.declared.queue_faults.Damage.{Damage}
use Rattle.io_traits.proofs.Causes.{no_cause}
use Rattle.config_tree.specs.declared.fault.SettingFault.{SettingFault}
use Rattle.graph_checks.specs.declared.fault.GraphFault.{GraphFault}
use Rattle.config_parse.specs.declared.fault.ConfigFault.{ConfigFault}
use Rattle.config_parse.specs.declared.fault.ConfigFault.TheVariants as text_fault
use Rattle.logstash_settings.specs.declared.fault.RangedOption.{RangedOption}
use Rattle.logstash_settings.specs.declared.fault.WordsFault.{WordsFault}
use Rattle.logstash_settings.specs.declared.fault.WordsFault.TheVariants as words_fault
use Rattle.logstash_settings.specs.Texts.{option_text}
use Rattle.logstash_top.specs.declared.status.Status.{Status}
use Rattle.logstash_top.specs.declared.status.Status.TheVariants.{BadConfig, Refused, InputFault, OutputFault, Damaged, FilesFault, DeadLettersFull}
use Rattle.logstash_top.specs.Status.{named_line, placed_line, whole_line, spare_line, config_line, refused_line, setting_line, words_line, damaged_line, files_line, letters_line, line_of}

-- what didn't change has no fault
pub untouched : {P Q : Type 0} (n : ℕ) → (Q → ⊥) → HasCauseUnless n n P Q
untouched n none = record { later = omega arith; cause = λ other. no_cause (λ i. n) none }

-- the line of a word out of its range, by its parts
pub range_line : (fault : WordsFault) (option : RangedOption) (text : List ℕ) → fault ≡ words_fault.Range option → text ≡ option_text option
    → codes "logstash: words: range " ++ (text ++ codes "\n") ≡ words_line fault
range_line fault option text is same = ap (λ t. codes "logstash: words: range " ++ (t ++ codes "\n")) same ∙ sym (ap words_line is)

-- the lines of statuses with ids, by their parts
pub config_lines : (s : Status) (pipeline text : List ℕ) (fault : ConfigFault) → s ≡ BadConfig pipeline fault → text ≡ pipeline → config_line text fault ≡ line_of s
config_lines s pipeline text fault is same = ap (λ t. config_line t fault) same ∙ sym (ap line_of is)

pub refused_lines : (s : Status) (pipeline text : List ℕ) (fault : GraphFault) → s ≡ Refused pipeline fault → text ≡ pipeline → refused_line text fault ≡ line_of s
refused_lines s pipeline text fault is same = ap (λ t. refused_line t fault) same ∙ sym (ap line_of is)

pub whole_lines : (s : Status) (reason pipeline text : List ℕ) → text ≡ pipeline → line_of s ≡ whole_line pipeline reason → whole_line text reason ≡ line_of s
whole_lines s reason pipeline text same is = ap (λ t. whole_line t reason) same ∙ sym is

pub input_line : (s : Status) (pipeline input one two : List ℕ) → s ≡ InputFault pipeline input → one ≡ pipeline → two ≡ input → placed_line one (codes ": input fault ") two ≡ line_of s
input_line s pipeline input one two is same other = ap₂ (λ p i. placed_line p (codes ": input fault ") i) same other ∙ sym (ap line_of is)

pub damage_line : (s : Status) (pipeline text : List ℕ) (damage : Damage) → s ≡ Damaged pipeline damage → text ≡ pipeline → damaged_line text damage ≡ line_of s
damage_line s pipeline text damage is same = ap (λ t. damaged_line t damage) same ∙ sym (ap line_of is)

pub no_file_line : (s : Status) (path : Option (List ℕ)) → s ≡ FilesFault path → files_line path ≡ line_of s
no_file_line s path is = sym (ap line_of is)

pub full_line : (s : Status) (pipeline text : List ℕ) (size added limit : ℕ) → s ≡ DeadLettersFull pipeline size added limit → text ≡ pipeline → letters_line text size added limit ≡ line_of s
full_line s pipeline text size added limit is same = ap (λ t. letters_line t size added limit) same ∙ sym (ap line_of is)

pub output_line : (s : Status) (output text : List ℕ) → s ≡ OutputFault output → text ≡ output → codes "logstash: output fault " ++ (text ++ codes "\n") ≡ line_of s
output_line s output text is same = ap (λ t. codes "logstash: output fault " ++ (t ++ codes "\n")) same ∙ sym (ap line_of is)

-- the lines of refused texts, by their parts
pub long_line : (pipeline : List ℕ) (fault : ConfigFault) → fault ≡ text_fault.Long → codes "logstash: pipeline " ++ (pipeline ++ codes ": long\n") ≡ config_line pipeline fault
long_line pipeline fault is = sym (ap (config_line pipeline) is)

pub syntax_line : (pipeline place : List ℕ) (fault : ConfigFault) (at : ℕ) → fault ≡ text_fault.Syntax at → place ≡ decimal at → placed_line pipeline (codes ": syntax at ") place ≡ config_line pipeline fault
syntax_line pipeline place fault at is same = ap (placed_line pipeline (codes ": syntax at ")) same ∙ sym (ap (config_line pipeline) is)

pub deep_line : (pipeline place : List ℕ) (fault : ConfigFault) (at : ℕ) → fault ≡ text_fault.Deep at → place ≡ decimal at → placed_line pipeline (codes ": deep at ") place ≡ config_line pipeline fault
deep_line pipeline place fault at is same = ap (placed_line pipeline (codes ": deep at ")) same ∙ sym (ap (config_line pipeline) is)

pub memory_line : (pipeline : List ℕ) (fault : ConfigFault) → fault ≡ text_fault.Memory → codes "logstash: no memory\n" ≡ config_line pipeline fault
memory_line pipeline fault is = sym (ap (config_line pipeline) is)

-- the lines of configurations that fail a check, by their parts: of a name, of the whole, of a setting, and of a name of which too few are left
pub name_line : (pipeline reason text name : List ℕ) (fault : GraphFault) → text ≡ name → placed_line pipeline reason name ≡ refused_line pipeline fault → placed_line pipeline reason text ≡ refused_line pipeline fault
name_line pipeline reason text name fault same is = ap (placed_line pipeline reason) same ∙ is

pub setting_fault_line : (pipeline id reason text name : List ℕ) (fault : SettingFault) → text ≡ name → named_line pipeline id reason name ≡ setting_line pipeline id fault → named_line pipeline id reason text ≡ setting_line pipeline id fault
setting_fault_line pipeline id reason text name fault same is = ap (named_line pipeline id reason) same ∙ is

pub spare_parts : (pipeline name more fewer : List ℕ) (wanted left : ℕ) → more ≡ decimal wanted → fewer ≡ decimal left
    → codes "logstash: pipeline " ++ (pipeline ++ (codes ": no spare " ++ (name ++ (codes ": " ++ (more ++ (codes " wanted, " ++ (fewer ++ codes " left\n"))))))) ≡ spare_line pipeline name wanted left
spare_parts pipeline name more fewer wanted left one two = ap₂ (λ m f. codes "logstash: pipeline " ++ (pipeline ++ (codes ": no spare " ++ (name ++ (codes ": " ++ (m ++ (codes " wanted, " ++ (f ++ codes " left\n")))))))) one two

-- the lines of a damaged file, and of dead letters that have no room, by their parts
pub damage_parts : (pipeline file place found expected : List ℕ) (damage : Damage) → file ≡ damage.file → place ≡ decimal damage.place → found ≡ decimal damage.found → expected ≡ decimal damage.expected
    → codes "logstash: pipeline " ++ (pipeline ++ (codes ": damaged " ++ (file ++ (codes " at " ++ (place ++ (codes ": found " ++ (found ++ (codes ", expected " ++ (expected ++ codes "\n"))))))))) ≡ damaged_line pipeline damage
damage_parts pipeline file place found expected damage a b c d = λ i.
    codes "logstash: pipeline " ++ (pipeline ++ (codes ": damaged " ++ (a i ++ (codes " at " ++ (b i ++ (codes ": found " ++ (c i ++ (codes ", expected " ++ (d i ++ codes "\n")))))))))

pub letters_parts : (pipeline had more most : List ℕ) (size added limit : ℕ) → had ≡ decimal size → more ≡ decimal added → most ≡ decimal limit
    → codes "logstash: pipeline " ++ (pipeline ++ (codes ": dead letters full: " ++ (had ++ (codes " and " ++ (more ++ (codes " over " ++ (most ++ codes "\n"))))))) ≡ letters_line pipeline size added limit
letters_parts pipeline had more most size added limit a b c = λ i. codes "logstash: pipeline " ++ (pipeline ++ (codes ": dead letters full: " ++ (a i ++ (codes " and " ++ (b i ++ (codes " over " ++ (c i ++ codes "\n")))))))

pub missing_line : (path : Option (List ℕ)) (file text : List ℕ) → path ≡ Some file → text ≡ file → codes "logstash: no file " ++ (text ++ codes "\n") ≡ files_line path
missing_line path file text is same = ap (λ t. codes "logstash: no file " ++ (t ++ codes "\n")) same ∙ sym (ap files_line is)
