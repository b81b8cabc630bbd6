use Rattle.std.proofs.Common.{length}
use Rattle.in_tcp.specs.Reads.{AllCame}
use Rattle.input_tests.proofs.connection_calls.add_calls.Given as goal

abbrev pub invariant-loop-call : goal.invariant-loop-call
invariant-loop-call l = AllCame (length l.links.came) l.input.connections
