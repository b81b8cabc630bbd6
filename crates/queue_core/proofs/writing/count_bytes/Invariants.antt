use Rattle.std.proofs.Common.{◌≡◌, ◌≤◌, ◌+◌, ◌-◌, ◌*◌, ◌^◌, drop}
use Rattle.queue_core.specs.Calls.{tail_bytes}
use Rattle.queue_core.proofs.writing.count_bytes.Given as goal

abbrev pub invariant-loop-place : goal.invariant-loop-place
invariant-loop-place l = record { sum : l.bytes + tail_bytes (drop l.place l.tails) ≡ tail_bytes l.tails; most : l.bytes ≤ l.place * (2 ^ 64 - 1) }
