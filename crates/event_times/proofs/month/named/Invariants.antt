use Rattle.std.proofs.Common.{◌≡◌, ◌+◌, drop, map}
use Rattle.event_times.specs.Reading.{named_in}
use Rattle.event_times.proofs.month.named.Given as goal

abbrev pub invariant-loop-name : goal.invariant-loop-name
invariant-loop-name l = record {
  counted : l.number ≡ l.name-index + 1;
  same : named_in l.number (map (λ name. name.now) (drop l.name-index l.names)) l.text ≡ named_in 1 (map (λ name. name.now) l.names) l.text;
}
