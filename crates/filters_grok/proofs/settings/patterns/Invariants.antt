use Rattle.std.proofs.Common.{◌≡◌, drop}
use Rattle.event_text.proofs.Going.{with_front}
use Rattle.event_text.specs.Options.{each_in}
use Rattle.filters_grok.specs.Settings.{pattern_of}
use Rattle.filters_grok.proofs.settings.patterns.Given as goal

abbrev pub invariant-loop-text : goal.invariant-loop-text
invariant-loop-text l = with_front l.found (each_in (pattern_of l.rules) (drop l.text-index l.texts)) ≡ each_in (pattern_of l.rules) l.texts
