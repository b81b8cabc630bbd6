use Rattle.std.proofs.Common.{◌≡◌, ◌++◌}
use Rattle.config_parse.specs.Tables.{values_of}
use Rattle.config_parse.proofs.joining.finished_settings.Given as goal

abbrev pub invariant-loop-name : goal.invariant-loop-name
invariant-loop-name l = l.entries ++ values_of l.name-iterator ≡ values_of l.fn.settings.entries
