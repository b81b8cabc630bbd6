use Rattle.monitor_core.specs.Counting.{IsSeatOf}
use Rattle.bench_parts.proofs.counters.run.Given as goal

abbrev pub invariant-loop : goal.invariant-loop
invariant-loop l = IsSeatOf l.monitor l.seat
