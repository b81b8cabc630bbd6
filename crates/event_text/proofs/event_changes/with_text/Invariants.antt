use Rattle.std.proofs.Common.{◌≡◌, take}
use Rattle.event_text.proofs.event_changes.with_text.Given as goal

abbrev pub invariant-loop-value : goal.invariant-loop-value
invariant-loop-value l = l.more ≡ take l.value-index l.values
