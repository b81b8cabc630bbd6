use Rattle.std.proofs.Common.{length}
use Rattle.in_tcp.specs.Reads.{AllCame}
use Rattle.input_tests.proofs.connection_calls.add_polls.Given as goal

abbrev pub invariant-loop : goal.invariant-loop
invariant-loop l = AllCame (length l.links.came) l.input.connections
