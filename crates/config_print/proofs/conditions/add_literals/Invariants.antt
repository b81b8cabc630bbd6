use Rattle.std.proofs.Common.{◌≡◌, ◌++◌, drop, map, false, string_bytes}
use Rattle.config_print.specs.Conditions.{members, literal}
use Rattle.config_print.specs.Layout.{text_of}
use Rattle.config_print.proofs.conditions.add_literals.Given as goal

abbrev pub invariant-loop-literal : goal.invariant-loop-literal
invariant-loop-literal l = string_bytes l.to ++ text_of (members l.later (map literal (drop l.literal-index l.literals))) ≡ string_bytes l.fn.to ++ text_of (members false (map literal l.literals))
