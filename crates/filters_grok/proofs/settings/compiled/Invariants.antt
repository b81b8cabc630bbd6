use Rattle.std.proofs.Common.{◌≡◌, drop}
use Rattle.event_text.proofs.Going.{with_front}
use Rattle.event_text.specs.Options.{each_in}
use Rattle.filters_grok.specs.Settings.{field_patterns}
use Rattle.filters_grok.proofs.settings.compiled.Given as goal

abbrev pub invariant-loop-field : goal.invariant-loop-field
invariant-loop-field l = with_front l.found (each_in (field_patterns l.rules) (drop l.field-index l.fields)) ≡ each_in (field_patterns l.rules) l.fields
