use Rattle.std.proofs.Common.{◌≡◌, drop}
use Rattle.event_text.proofs.Going.{with_front}
use Rattle.event_text.specs.Options.{each_in}
use Rattle.event_text.specs.PathReading.{way_in}
use Rattle.event_text.proofs.options.paths_in.Given as goal

abbrev pub invariant-loop-text : goal.invariant-loop-text
invariant-loop-text l = with_front l.found (each_in way_in (drop l.text-index l.texts)) ≡ each_in way_in l.texts
