use Rattle.queue_core.specs.Opens.{IsReady}
use Rattle.queue_tests.proofs.calls.add_calls.Given as goal

abbrev pub invariant-loop-call : goal.invariant-loop-call
invariant-loop-call g l = IsReady g.S.Store l.queue l.store
