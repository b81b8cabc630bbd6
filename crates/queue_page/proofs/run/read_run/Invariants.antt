use Rattle.std.proofs.Common.{◌-◌, ◌≡◌, ◌≤◌, ◌+◌, ◌*◌, length}
use Rattle.io_traits.specs.Calls.{ChangesNothing}
use Rattle.queue_page.specs.Blocks.{AreBytesIn, IsPart, OnFile}
use Rattle.queue_page.proofs.RunReads.{SoFar}
use Rattle.queue_page.proofs.run.read_run.Given as goal

abbrev pub invariant-loop-count : goal.invariant-loop-count
invariant-loop-count g l = record {
  few : l.count ≤ l.limit;
  number : l.spot.number ≡ l.fn.first.number + l.count;
  version : l.spot.version ≡ l.fn.first.version;
  end : l.spot.end ≡ l.fn.first.end;
  behind : l.fn.first.place + 16 * l.count ≤ l.spot.place;
  within : l.spot.place ≤ l.spot.end;
  same : ChangesNothing g.S.Store.tells g.S.Store.seen g.S.Store.moment g.S.Store.may_leave l.fn.store l.store;
  faults : g.S.Store.faults l.store ≡ g.S.Store.faults l.fn.store;
  part : OnFile g.S.Store l.fn.store l.fn.name l.fn.block (λ file. IsPart file l.block);
  bytes : OnFile g.S.Store l.fn.store l.fn.name l.fn.block (λ file. l.fn.first.end ≤ length file → AreBytesIn l.fn.first.place l.spot.place file);
  so_far : OnFile g.S.Store l.fn.store l.fn.name l.fn.block (λ file. l.fn.first.end ≤ length file → SoFar l.fn.limit l.fn.first l.count l.spot file);
}

abbrev pub decreases-loop-count : goal.decreases-loop-count
decreases-loop-count g l = l.limit - l.count
