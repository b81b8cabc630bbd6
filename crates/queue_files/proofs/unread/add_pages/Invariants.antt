use Rattle.std.proofs.Common.{◌≡◌, ◌++◌, drop}
use Rattle.queue_files.specs.Unread.{pages_above}
use Rattle.queue_files.proofs.unread.add_pages.Given as goal

abbrev pub invariant-loop-number : goal.invariant-loop-number
invariant-loop-number l = record {
  so_far : l.fn.names.items ++ pages_above l.folder l.head l.pages ≡ l.names.items ++ pages_above l.folder l.head (drop l.number-index l.pages);
}
