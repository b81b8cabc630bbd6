use Rattle.line_inputs.specs.Positions.{AreReady}
use Rattle.watch_tests.proofs.openings.add_calls.Given as goal

abbrev pub invariant-loop-call : goal.invariant-loop-call
invariant-loop-call g l = AreReady g.S.Store l.watched.files l.store
