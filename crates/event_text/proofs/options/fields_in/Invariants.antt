use Rattle.std.proofs.Common.{◌≡◌, drop}
use Rattle.event_text.proofs.Going.{with_front}
use Rattle.event_text.specs.Options.{each_in, field_in}
use Rattle.event_text.proofs.options.fields_in.Given as goal

abbrev pub invariant-loop-pair : goal.invariant-loop-pair
invariant-loop-pair l = with_front l.found (each_in field_in (drop l.pair-index l.pairs)) ≡ each_in field_in l.pairs
