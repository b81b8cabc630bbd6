use Rattle.in_tcp.specs.Reads.{AllCame}
use Rattle.bench_parts.proofs.inputs.lines_of_connections.Given as goal

abbrev pub invariant-loop : goal.invariant-loop
invariant-loop g l = AllCame l.links.came l.input.connections
