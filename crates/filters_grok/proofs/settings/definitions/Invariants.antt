use Rattle.std.proofs.Common.{◌≡◌, drop}
use Rattle.event_text.proofs.Going.{with_front}
use Rattle.event_text.specs.Options.{each_in}
use Rattle.filters_grok.specs.Settings.{definition}
use Rattle.filters_grok.proofs.settings.definitions.Given as goal

abbrev pub invariant-loop-entry : goal.invariant-loop-entry
invariant-loop-entry l = with_front l.found (each_in definition (drop l.entry-index l.entries)) ≡ each_in definition l.entries
