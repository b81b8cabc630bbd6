use Rattle.in_file.specs.Positions.{IsReady}
use Rattle.input_tests.proofs.calls.add_run.Given as goal

abbrev pub invariant-loop-call : goal.invariant-loop-call
invariant-loop-call g l = IsReady g.S.Store l.input l.store
