-- The filter drop, as this project's table of plugins has it.
use Rattle.std.specs.Prelude.{[], true}
use Rattle.event_text.specs.Options.{no_options}
use Rattle.config_tree.specs.Joining.{Entries}
use Rattle.event_text.specs.declared.applied.Applied.{Applied}
use Rattle.filter_settings.specs.Settings.{Made, with_made, all_set}
use Rattle.filter_settings.specs.Options.{option_set}
use Rattle.filters_shape.specs.declared.drop_filter.DropFilter.{DropFilter}

-- what the settings are read as: it has none of its own
abbrev pub drop_of : Entries → Made DropFilter
drop_of es = with_made (λ o. record { options = o }) (all_set option_set es no_options)

-- it gives no event
abbrev pub dropped : Applied
dropped = record { events = []; matched = true }
