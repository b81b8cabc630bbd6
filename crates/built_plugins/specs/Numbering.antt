-- The outputs that plugins are, with the numbers of their targets.
use Rattle.std.specs.Prelude.{ℕ, zero, suc, ◌+◌, List, [], ◌∷◌, ◌++◌, length, map, codes}
use Rattle.config_tree.specs.declared.tree.Plugin.{Plugin}
use Rattle.foreign_parts.specs.declared.place.Place.{Place}
use Rattle.event_flow.specs.Ids.{plugin_id}
use Rattle.event_flow.specs.Places.{Draws, places_of}
use Rattle.built_plugins.specs.declared.output.OutputTargets.{OutputTargets}
use Rattle.built_plugins.specs.declared.output.Outputs.{Outputs}
use Rattle.built_plugins.specs.declared.output.Target.{Target}

-- so many numbers, from one on
abbrev pub numbers : ℕ → ℕ → List ℕ
numbers from zero = []
numbers from (suc n) = from ∷ numbers (from + 1) n

-- the places of an output as targets
abbrev pub targets_of : List ℕ → List Place → List Target
targets_of id places = map (λ at. record { output = id; place = at }) places

abbrev pub output_id : ℕ → Plugin → List ℕ
output_id k p = plugin_id (codes "output") k p

abbrev pub output_places : Draws → ℕ → Plugin → List Place
output_places draws k p = places_of draws (output_id k p) p

-- outputs from the k-th on, with the numbers of their targets from t on, and these targets
abbrev pub outputs_from : Draws → ℕ → ℕ → List Plugin → List OutputTargets
outputs_from draws k t [] = []
outputs_from draws k t (p ∷ ps) =
    record { id = output_id k p; targets = numbers t (length (output_places draws k p)) } ∷ outputs_from draws (k + 1) (t + length (output_places draws k p)) ps

abbrev pub targets_from : Draws → ℕ → List Plugin → List Target
targets_from draws k [] = []
targets_from draws k (p ∷ ps) = targets_of (output_id k p) (output_places draws k p) ++ targets_from draws (k + 1) ps

-- the outputs that plugins are, behind others
abbrev pub outputs_behind : Draws → Outputs → ℕ → List Plugin → Outputs
outputs_behind draws os k ps = record { outputs = os.outputs ++ outputs_from draws k (length os.targets) ps; targets = os.targets ++ targets_from draws k ps }

abbrev pub with_output : List ℕ → List Place → Outputs → Outputs
with_output id places os = record {
  outputs = os.outputs ++ (record { id = id; targets = numbers (length os.targets) (length places) } ∷ []);
  targets = os.targets ++ targets_of id places;
}

-- the outputs of a configuration
abbrev pub outputs_of : Draws → List Plugin → Outputs
outputs_of draws ps = record { outputs = outputs_from draws 1 0 ps; targets = targets_from draws 1 ps }
