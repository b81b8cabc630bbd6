use Rattle.std.proofs.Common.{◌≡◌, drop}
use Rattle.event_text.proofs.Going.{with_front}
use Rattle.event_text.specs.Options.{each_in}
use Rattle.filter_settings.proofs.lists.items_of.Given as goal

abbrev pub invariant-loop-value : goal.invariant-loop-value
invariant-loop-value g l =
    with_front l.found (each_in g.T.ListItem.said (drop l.value-index l.values))
    ≡ each_in g.T.ListItem.said l.values
