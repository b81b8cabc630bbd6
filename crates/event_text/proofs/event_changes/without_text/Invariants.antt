use Rattle.std.proofs.Common.{◌≡◌, ◌++◌, drop}
use Rattle.event_text.specs.Options.{others}
use Rattle.event_text.proofs.event_changes.without_text.Given as goal

abbrev pub invariant-loop-value : goal.invariant-loop-value
invariant-loop-value l = l.others ++ others l.text (drop l.value-index l.values) ≡ others l.text l.values
