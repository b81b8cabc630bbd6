use Rattle.line_core.proofs.summing.first_finished.Given as goal

abbrev pub invariant-loop-at : goal.invariant-loop-at
invariant-loop-at l = Unit {0}
