use Rattle.std.proofs.Common.{◌≡◌, ◌++◌, ◌-◌, string_bytes}
use Rattle.config_print.specs.Printed.{indentation}
use Rattle.config_print.proofs.values.add_indentation.Given as goal

abbrev pub invariant-loop-level : goal.invariant-loop-level
invariant-loop-level l = string_bytes l.to ++ indentation (l.levels - l.level) ≡ string_bytes l.fn.to ++ indentation l.levels
