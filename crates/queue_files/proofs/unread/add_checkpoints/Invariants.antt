use Rattle.std.proofs.Common.{◌≡◌, ◌++◌, drop}
use Rattle.queue_files.specs.Unread.{unpaired}
use Rattle.queue_files.proofs.unread.add_checkpoints.Given as goal

abbrev pub invariant-loop-number : goal.invariant-loop-number
invariant-loop-number l = record {
  so_far : l.fn.names.items ++ unpaired l.folder l.head l.pages l.checkpoints ≡ l.names.items ++ unpaired l.folder l.head l.pages (drop l.number-index l.checkpoints);
}
