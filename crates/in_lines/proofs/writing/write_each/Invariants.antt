use Rattle.std.proofs.Common.{◌≡◌, ◌++◌, drop, take, length}
use Rattle.in_lines.specs.Written.{out_bytes}
use Rattle.in_lines.proofs.writing.write_each.Given as goal

abbrev pub invariant-loop-event : goal.invariant-loop-event
invariant-loop-event l =
    (l.to.items ++ out_bytes l.codec (drop l.event-index l.events) ≡ l.fn.to.items ++ out_bytes l.codec l.events)
    × (take (length l.fn.to.items) l.to.items ≡ l.fn.to.items)
