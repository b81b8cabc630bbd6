use Rattle.std.proofs.Common.{◌≡◌, drop}
use Rattle.event_text.proofs.Going.{with_front}
use Rattle.event_text.specs.Options.{each_in}
use Rattle.filter_settings.specs.Convert.{item_converted}
use Rattle.filter_settings.proofs.conversion.convert_items.Given as goal

abbrev pub invariant-loop-item : goal.invariant-loop-item
invariant-loop-item l = with_front l.found (each_in (item_converted l.to) (drop l.item-index l.items)) ≡ each_in (item_converted l.to) l.items
