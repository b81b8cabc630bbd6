use Rattle.condition_eval.specs.Made.{AreMadeOf}
use Rattle.history_tests.proofs.parting.parted_by.Given as goal

abbrev pub invariant-loop-event : goal.invariant-loop-event
invariant-loop-event l = AreMadeOf l.condition l.patterns
