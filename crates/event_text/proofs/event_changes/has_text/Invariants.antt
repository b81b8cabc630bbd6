use Rattle.std.proofs.Common.{◌≡◌, drop}
use Rattle.event_text.specs.Options.{has_text}
use Rattle.event_text.proofs.event_changes.has_text.Given as goal

abbrev pub invariant-loop-value : goal.invariant-loop-value
invariant-loop-value l = has_text l.text (drop l.value-index l.values) ≡ has_text l.text l.values
