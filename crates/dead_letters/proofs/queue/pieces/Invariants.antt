use Rattle.std.proofs.Common.{◌≡◌, ◌≤◌, ◌++◌, take, drop}
use Rattle.std.specs.List.{sum}
use Rattle.dead_letters.specs.Queues.{pieces}
use Rattle.dead_letters.proofs.queue.pieces.Given as goal

abbrev pub invariant-loop-size : goal.invariant-loop-size
invariant-loop-size l = record {
  so_far : l.pieces ++ pieces l.limit l.number l.before l.taken (drop l.size-index l.records) ≡ pieces l.limit l.last l.held 0 l.records;
  low : l.taken ≤ sum (take l.size-index l.records);
}
