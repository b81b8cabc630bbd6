use Rattle.dead_letters.specs.Ready.{IsReady}
use Rattle.bench_parts.proofs.letters.append.Given as goal

abbrev pub invariant-loop : goal.invariant-loop
invariant-loop g l = IsReady g.S.Store l.queue l.store
