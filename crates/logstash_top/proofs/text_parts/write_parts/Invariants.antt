use Rattle.std.proofs.Common.{◌≡◌, ◌++◌, ℕ, List, drop}
use Rattle.io_traits.specs.Telling.{Grows}
use Rattle.logstash_top.specs.Parts.{parts_text}
use Rattle.logstash_top.proofs.text_parts.write_parts.Given as goal

abbrev pub invariant-loop-part : goal.invariant-loop-part
invariant-loop-part g l = record {
  written : List ℕ;
  whole : parts_text l.parts ≡ written ++ parts_text (drop l.part-index l.parts);
  grows : Grows (g.O.Sink.taken l.fn.sink) (g.O.Sink.taken l.sink) written;
  same : g.O.Sink.faults l.sink ≡ g.O.Sink.faults l.fn.sink;
}
