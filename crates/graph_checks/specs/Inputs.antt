-- The checks of the inputs, in the order of the text.
use Rattle.std.specs.Prelude.{ℕ, ◌+◌, ◌==◌, List, [], ◌∷◌, ◌++◌, Bool, true, false, if◌then◌else◌, codes, Option, Some, None, Ok, Err}
use Rattle.std.specs.Fmt.{decimal}
use Rattle.config_tree.specs.declared.tree.Plugin.{Plugin}
use Rattle.slot_files.specs.declared.name.PositionOf.TheVariants as position
use Rattle.plugin_settings.specs.Read.{input_of}
use Rattle.plugin_settings.specs.declared.read.Input.{Input}
use Rattle.plugin_settings.specs.declared.read.Input.TheVariants as i
use Rattle.event_flow.specs.Ids as ids
use Rattle.graph_checks.specs.Answers.{Checked, next, of_plugin, all_checked}
use Rattle.graph_checks.specs.Plugins.{met_behind, id_behind, path_behind, path_met}
use Rattle.graph_checks.specs.declared.inputs.SeenInputs.{SeenInputs}
use Rattle.graph_checks.specs.declared.fault.GraphFault.TheVariants as fault

-- A `*` stands behind the last `/` of a path, which is then that of no file, but a pattern.
abbrev pub is_many : Bool → List ℕ → Bool
is_many found [] = found
is_many found (b ∷ bs) = is_many (if b == 47 then false else (if b == 42 then true else found)) bs

abbrev pub http_address : ℕ → List ℕ
http_address port = codes "http:" ++ decimal port

abbrev pub letters_address : List ℕ → List ℕ
letters_address id = codes "dlq:" ++ id

abbrev pub stdin_met : SeenInputs → Checked SeenInputs
stdin_met m = if m.has_stdin then Err fault.TwiceStdin else Ok (record m { has_stdin = true })

-- a pattern has no position file of its own
abbrev pub input_path_met : List ℕ → SeenInputs → Checked SeenInputs
input_path_met path m = next (λ met. Ok (record m { paths = met }))
    (if is_many false path then path_behind path m.paths else path_met position.Input path m.paths)

abbrev pub address_met : List ℕ → SeenInputs → Checked SeenInputs
address_met address m = next (λ met. Ok (record m { addresses = met })) (met_behind (fault.TwiceAddress address) address m.addresses)

-- an address on which something outside of the pipelines sends
abbrev pub with_outside : List ℕ → SeenInputs → SeenInputs
with_outside address m = record m { outside = m.outside ++ address ∷ [] }

abbrev pub outside_met : List ℕ → SeenInputs → Checked SeenInputs
outside_met address m = next (λ met. Ok (with_outside address met)) (address_met address m)

abbrev pub source_met : Input → SeenInputs → Checked SeenInputs
source_met (i.Stdin s) m = stdin_met m
source_met (i.Generator g) m = Ok m
source_met (i.File f) m = input_path_met f.path m
source_met (i.Tcp t) m = Ok m
source_met (i.Http h) m = outside_met (http_address h.port) m
source_met (i.Pipeline a) m = address_met a.address m
source_met (i.DeadLetters d) m = outside_met (letters_address d.pipeline_id) m

abbrev pub input_id_next : SeenInputs → Plugin → List ℕ
input_id_next m p = ids.plugin_id (codes "input") (m.inputs + 1) p

abbrev pub input_id_met : List ℕ → SeenInputs → Checked SeenInputs
input_id_met id m = next (λ met. Ok (record m { ids = met; inputs = m.inputs + 1 })) (id_behind id m.ids)

-- one input: its name, its settings, its id, and its path, its address, or that it is stdin
abbrev pub input_read : List ℕ → Plugin → SeenInputs → Option Input → Checked SeenInputs
input_read id p m None = Err (fault.UnknownPlugin p.name)
input_read id p m (Some input) = next (source_met input) (input_id_met id m)

unfoldable pub input_checked : Plugin → SeenInputs → Checked SeenInputs
input_checked p m = next (input_read (input_id_next m p) p m) (of_plugin (input_id_next m p) (input_of p.name p.settings.list))

abbrev pub inputs_start : SeenInputs
inputs_start = record { inputs = 0; ids = []; paths = []; addresses = []; outside = []; has_stdin = false }

unfoldable pub inputs_checked : List Plugin → Checked SeenInputs
inputs_checked ps = all_checked input_checked ps inputs_start
