-- The inputs and outputs of a plan, as their settings say.
use Rattle.std.specs.Prelude.{ℕ, ◌+◌, List, [], ◌∷◌, ◌++◌, map, slice_get, codes, Option, Some, None, Ok, Err}
use Rattle.config_tree.specs.declared.tree.Config.{Config}
use Rattle.config_tree.specs.declared.tree.Plugin.{Plugin}
use Rattle.event_flow.specs.Ids.{plugin_id}
use Rattle.event_flow.specs.Parts.{parts_of}
use Rattle.event_flow.specs.Places.{Draws}
use Rattle.filter_settings.specs.Settings.{Made}
use Rattle.in_lines.specs.declared.codec.OutCodec.{OutCodec}
use Rattle.built_plugins.specs.Numbering.{outputs_of}
use Rattle.plugin_settings.specs.Read.{input_of, output_of}
use Rattle.plugin_settings.specs.declared.read.Input.{Input}
use Rattle.plugin_settings.specs.declared.read.Output.{Output}
use Rattle.plugin_settings.specs.declared.read.Output.TheVariants as o
use Rattle.graph_checks.specs.declared.planned.PlannedInput.{PlannedInput}
use Rattle.graph_checks.specs.declared.planned.PlannedOutputs.{PlannedOutputs}

-- what settings say; none where they are refused, as the checks refuse them
abbrev pub unless_refused : {A : Type 0} → Made (Option A) → Option A
unless_refused (Ok x) = x
unless_refused (Err fault) = None

-- an input with its id
abbrev pub with_id : List ℕ → Option Input → List PlannedInput
with_id id None = []
with_id id (Some x) = record { id = id; input = x } ∷ []

-- the k-th input of the text
abbrev pub input_at : ℕ → Plugin → List PlannedInput
input_at k p = with_id (plugin_id (codes "input") k p) (unless_refused (input_of p.name p.settings.list))

-- the inputs that a text counts from k on
abbrev pub inputs_from : ℕ → List Plugin → List PlannedInput
inputs_from k [] = []
inputs_from k (p ∷ ps) = input_at k p ++ inputs_from (k + 1) ps

-- what an output that is built in is set to
abbrev pub output_at : Plugin → Option Output
output_at p = unless_refused (output_of p.name p.settings.list)

-- how an output writes events, where it writes them to stdout or a file
abbrev pub codec_in : Option Output → Option OutCodec
codec_in None = None
codec_in (Some (o.Stdout s)) = Some s.codec
codec_in (Some (o.File s)) = Some s.codec
codec_in (Some (o.Pipeline s)) = None
codec_in (Some (o.Sink s)) = None

abbrev pub codec_found : Option (Option Output) → Option OutCodec
codec_found None = None
codec_found (Some x) = codec_in x

-- how the k-th of some outputs does, counted from 0
abbrev pub codec_at : List (Option Output) → ℕ → Option OutCodec
codec_at xs k = codec_found (slice_get xs k)

-- the outputs of a configuration, with the numbers of the boxes that were drawn for them
abbrev pub planned_outputs : Draws → Config → PlannedOutputs
planned_outputs draws config = record {
  outputs = outputs_of draws (parts_of config.outputs).plugins;
  settings = map output_at (parts_of config.outputs).plugins;
}
