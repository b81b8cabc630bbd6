use Rattle.std.proofs.Common.{◌≡◌, ◌≤◌, ◌++◌, ℕ, List, length}
use Rattle.io_traits.specs.Telling.{Grows}
use Rattle.io_traits.proofs.sinks.write_all.Given as goal

abbrev pub invariant-loop-rest : goal.invariant-loop-rest
invariant-loop-rest g l = record {
  done : List ℕ;
  whole : l.bytes ≡ done ++ l.rest;
  grows : Grows (g.O.Sink.taken l.fn.sink) (g.O.Sink.taken l.sink) done;
  kept : g.O.Sink.flushed l.fn.sink ≤ g.O.Sink.flushed l.sink;
  same : g.O.Sink.faults l.sink ≡ g.O.Sink.faults l.fn.sink;
}

abbrev pub decreases-loop-rest : goal.decreases-loop-rest
decreases-loop-rest g l = length l.rest
