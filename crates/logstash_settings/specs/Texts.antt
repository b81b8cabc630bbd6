-- The texts of options and faults.
use Rattle.std.specs.Prelude.{ℕ, List, ◌++◌, codes}
use Rattle.logstash_settings.specs.declared.fault.RangedOption.{RangedOption}
use Rattle.logstash_settings.specs.declared.fault.RangedOption.TheVariants as ranged
use Rattle.logstash_settings.specs.declared.fault.WordsFault.{WordsFault}
use Rattle.logstash_settings.specs.declared.fault.WordsFault.TheVariants as fault

-- the long word of an option
abbrev pub option_text : RangedOption → List ℕ
option_text ranged.Workers = codes "--pipeline.workers"
option_text ranged.BatchSize = codes "--pipeline.batch.size"
option_text ranged.PipelineId = codes "--pipeline.id"
option_text ranged.Sample = codes "--sample"
option_text ranged.QueueCheck = codes "--pqcheck"
option_text ranged.QueueRepair = codes "--pqrepair"

abbrev pub words_fault_text : WordsFault → List ℕ
words_fault_text fault.Unread = codes "unread"
words_fault_text fault.Both = codes "both"
words_fault_text (fault.Range option) = codes "range " ++ option_text option
words_fault_text fault.Apart = codes "apart"
words_fault_text fault.Memory = codes "out of memory"
