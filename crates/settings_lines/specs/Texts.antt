-- The texts of faults.
use Rattle.std.specs.Prelude.{ℕ, List, ◌++◌, codes, decimal}
use Rattle.settings_lines.specs.declared.fault.SettingsLineFault.{SettingsLineFault}
use Rattle.settings_lines.specs.declared.fault.SettingsLineFault.TheVariants as line
use Rattle.settings_lines.specs.declared.fault.SettingsFault.{SettingsFault}
use Rattle.settings_lines.specs.declared.fault.SettingsFault.TheVariants as fault

abbrev pub line_fault_text : SettingsLineFault → List ℕ
line_fault_text line.Form = codes "form"
line_fault_text line.KeyTwice = codes "key twice"
line_fault_text line.NoId = codes "no id"
line_fault_text line.NoConfiguration = codes "no configuration"
line_fault_text line.TooMany = codes "too many"
line_fault_text line.Long = codes "long"

abbrev pub settings_fault_text : SettingsFault → List ℕ
settings_fault_text (fault.Line n why) = codes "line " ++ (decimal n ++ (codes ": " ++ line_fault_text why))
settings_fault_text (fault.Unknown n key) = codes "line " ++ (decimal n ++ (codes ": unknown " ++ key))
settings_fault_text (fault.Range n key) = codes "line " ++ (decimal n ++ (codes ": range " ++ key))
settings_fault_text (fault.Twice id) = codes "twice " ++ id
settings_fault_text fault.Memory = codes "out of memory"
