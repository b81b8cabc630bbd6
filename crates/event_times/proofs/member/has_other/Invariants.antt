use Rattle.std.proofs.Common.{◌≡◌, drop}
use Rattle.std.specs.List.{list_any}
use Rattle.event_times.specs.Decoded.{is_other}
use Rattle.event_times.proofs.member.has_other.Given as goal

abbrev pub invariant-loop-value : goal.invariant-loop-value
invariant-loop-value l = list_any is_other (drop l.value-index l.values) ≡ list_any is_other l.values
