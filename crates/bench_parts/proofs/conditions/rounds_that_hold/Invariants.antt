use Rattle.condition_eval.specs.Made.{AreMadeOf}
use Rattle.bench_parts.proofs.conditions.rounds_that_hold.Given as goal

abbrev pub invariant-loop : goal.invariant-loop
invariant-loop l = AreMadeOf l.condition l.patterns
