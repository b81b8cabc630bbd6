-- The plugins that are built in: what is kept of them.
use Rattle.std.specs.Prelude.{ℕ, List, Option, Some, None, option_map}
use Rattle.config_tree.specs.Joining.{Entries}
use Rattle.filter_settings.specs.Settings.{Made, with_made}
use Rattle.plugin_settings.specs.Read.{output_of}
use Rattle.plugin_settings.specs.declared.read.Output.{Output}
use Rattle.plugin_settings.specs.declared.read.Output.TheVariants as o
use Rattle.built_plugins.specs.Makes.{built_of}
use Rattle.built_plugins.specs.declared.built.BuiltFilter.{BuiltFilter}
use Rattle.foreign_parts.specs.declared.boxes.BoxKind.{BoxKind}
use Rattle.foreign_parts.specs.declared.boxes.BoxKind.TheVariants as kind
use Rattle.graph_checks.specs.declared.built_in.BuiltIn.{BuiltIn}

-- what is kept of a plugin that writes no file
abbrev pub no_path : BuiltIn
no_path = record { path = None }

-- what is kept of an output: the path of a file
abbrev pub kept_of : Output → BuiltIn
kept_of (o.Stdout s) = no_path
kept_of (o.File f) = record { path = Some f.path }
kept_of (o.Pipeline s) = no_path
kept_of (o.Sink s) = no_path

-- the plugin of a name; none where none of its kind is built in
abbrev pub built_in : BoxKind → List ℕ → Entries → Made (Option BuiltIn)
built_in kind.Filter k es = with_made (option_map (λ (f : BuiltFilter). no_path)) (built_of k es)
built_in kind.Output k es = with_made (option_map kept_of) (output_of k es)
