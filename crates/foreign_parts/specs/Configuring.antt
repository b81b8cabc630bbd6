-- How a box answers to its settings.
use Rattle.std.specs.Prelude.{◌≡◌, Option, Some, None, Result, Ok, Err, ⊤}
use Rattle.config_tree.specs.declared.fault.FromFault.{FromFault}
use Rattle.config_tree.specs.declared.fault.FromFault.TheVariants as from
use Rattle.config_tree.specs.declared.fault.SettingFault.{SettingFault}

-- it takes them exactly where it refuses none of them, and else tells the refusal; memory may run out in the place of any answer
abbrev pub Answers : Result (Unit {0}) FromFault → Option SettingFault → Type 0
Answers (Ok u) refusal = refusal ≡ None
Answers (Err (from.Bad fault)) refusal = refusal ≡ Some fault
Answers (Err from.Memory) refusal = ⊤
