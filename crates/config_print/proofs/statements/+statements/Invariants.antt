use Rattle.std.proofs.Common.{◌≡◌, ◌++◌, drop, map, false, string_bytes}
use Rattle.std.specs.Prelude.{codes}
use Rattle.config_print.specs.Printed.{statement_lines, branch, arm}
use Rattle.config_print.specs.Layout.{text_of}
use Rattle.config_print.proofs.statements.+statements.Given as goal

abbrev pub invariant-add_block-loop-statement : goal.invariant-add_block-loop-statement
invariant-add_block-loop-statement l = string_bytes l.to ++ text_of (statement_lines l.inner (drop l.statement-index l.list)) ≡ string_bytes l.fn.to ++ (codes " {" ++ text_of (statement_lines l.inner l.list))

abbrev pub invariant-add_branch-loop-arm : goal.invariant-add_branch-loop-arm
invariant-add_branch-loop-arm l = string_bytes l.to ++ text_of (branch l.later l.margin (map arm (drop l.arm-index l.arms))) ≡ string_bytes l.fn.to ++ text_of (branch false l.margin (map arm l.arms))
