-- Which conditions are taken: those whose texts are patterns.
use Rattle.std.specs.Prelude.{ℕ, length, Bool, if◌then◌else◌, codes, Ok, Err}
use Rattle.std.specs.List.{list_all}
use Rattle.config_tree.specs.declared.fault.SettingFault.TheVariants as fault
use Rattle.config_tree.specs.declared.tree.Condition.{Condition}
use Rattle.condition_eval.specs.Made.{texts}
use Rattle.pattern_box.specs.Patterns.{is_pattern}
use Rattle.filter_settings.specs.Settings.{Made}
use Rattle.built_plugins.specs.declared.condition.NamedCondition.{NamedCondition}

-- each pattern of a condition has to be one
abbrev pub patterns_read : Condition → Made (Unit {0})
patterns_read c = if list_all is_pattern (texts c) then Ok tt else Err (fault.BadPattern (codes "condition"))

abbrev pub has_patterns : NamedCondition → Bool
has_patterns c = list_all is_pattern (texts c.condition)

-- a condition, or the refusal of the first of its texts that is no pattern
abbrev pub compiled : NamedCondition → Made NamedCondition
compiled c = if has_patterns c then Ok c else Err (fault.BadPattern (codes "condition"))

-- how many patterns it has
abbrev pub condition_patterns : NamedCondition → ℕ
condition_patterns c = length (texts c.condition)
