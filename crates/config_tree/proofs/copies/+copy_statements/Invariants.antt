use Rattle.std.proofs.Common.{◌≡◌, take}
use Rattle.config_tree.proofs.copies.+copy_statements.Given as goal

abbrev pub invariant-copy_arms-loop-arm : goal.invariant-copy_arms-loop-arm
invariant-copy_arms-loop-arm l = l.copies ≡ take l.arm-index l.arms

abbrev pub invariant-copy_statements-loop-statement : goal.invariant-copy_statements-loop-statement
invariant-copy_statements-loop-statement l = l.copies ≡ take l.statement-index l.statements
