use Rattle.std.proofs.Common.{◌≡◌, drop}
use Rattle.event_text.proofs.Going.{with_front}
use Rattle.event_text.specs.Options.{each_in}
use Rattle.filter_settings.specs.Readers.{at_field}
use Rattle.filter_settings.proofs.hashes.fields_of.Given as goal

abbrev pub invariant-loop-entry : goal.invariant-loop-entry
invariant-loop-entry g l =
    with_front l.found (each_in (at_field g.T.ListItem.said) (drop l.entry-index l.entries))
    ≡ each_in (at_field g.T.ListItem.said) l.entries
