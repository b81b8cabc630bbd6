use Rattle.std.proofs.Common.{◌≡◌, length}
use Rattle.queue_core.specs.Calls.{tail_marks}
use Rattle.queue_core.proofs.EachPlace.{marks_from}
use Rattle.queue_core.proofs.marking.set_tails.Given as goal

abbrev pub invariant-loop-place : goal.invariant-loop-place
invariant-loop-place l = record {
  changed : marks_from l.place l.tails l.marks.items ≡ tail_marks l.tails l.fn.marks.items;
  long : length l.marks.items ≡ length l.fn.marks.items;
}
