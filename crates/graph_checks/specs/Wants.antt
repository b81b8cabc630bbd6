-- The plugins that are boxes.
use Rattle.std.specs.Prelude.{◌≡◌, ◌≤◌, ℕ, ◌+◌, List, [], ◌∷◌, ◌++◌, length, map, flat_map, replicate, if◌then◌else◌, bytes_eq, Option, Some, None, Ok, Err}
use Rattle.config_tree.specs.declared.tree.Config.{Config}
use Rattle.config_tree.specs.declared.tree.Plugin.{Plugin}
use Rattle.filter_settings.specs.Settings.{Made}
use Rattle.event_flow.specs.Ids as ids
use Rattle.event_flow.specs.Parts.{parts_of}
use Rattle.foreign_parts.specs.Stocks.{Stock, left_of}
use Rattle.foreign_parts.specs.declared.boxes.BoxKind.{BoxKind}
use Rattle.foreign_parts.specs.declared.boxes.BoxKind.TheVariants as kind
use Rattle.graph_checks.specs.BuiltIn.{built_in}
use Rattle.graph_checks.specs.Linked.{outside_of}
use Rattle.graph_checks.specs.Plugins.{section_name}
use Rattle.graph_checks.specs.Whole.{Given}
use Rattle.graph_checks.specs.declared.built_in.BuiltIn.{BuiltIn}
use Rattle.graph_checks.specs.declared.want.Want.{Want}
use Rattle.graph_checks.specs.declared.want.Wants.{Wants}

-- a plugin by its id and its name, where it is not built in
abbrev pub want_of : List ℕ → List ℕ → Made (Option BuiltIn) → List Want
want_of id name (Ok None) = record { id = id; name = name } ∷ []
want_of id name (Ok (Some b)) = []
want_of id name (Err fault) = []

-- those that are boxes among plugins which a section counts from k on
abbrev pub wants_from : BoxKind → ℕ → List Plugin → List Want
wants_from which k [] = []
wants_from which k (p ∷ ps) = want_of (ids.plugin_id (section_name which) k p) p.name (built_in which p.name p.settings.list) ++ wants_from which (k + 1) ps

abbrev pub wants_of : BoxKind → List Plugin → List Want
wants_of which ps = wants_from which 1 ps

-- how often a name stands among names
abbrev pub times_of : List ℕ → List (List ℕ) → ℕ
times_of k [] = 0
times_of k (x ∷ xs) = (if bytes_eq k x then 1 else 0) + times_of k xs

-- plugins that are boxes, each so often
abbrev pub so_often : ℕ → List Want → List Want
so_often n ws = flat_map (replicate n) ws

-- the names under which boxes for them are handed in
abbrev pub names_of : List Want → List (List ℕ)
names_of ws = map (λ w. w.name) ws

-- as many boxes of each name are left as there are of it among these
abbrev pub AreLeft : List (List ℕ) → List Stock → Type 0
AreLeft names ss = (k : List ℕ) → times_of k names ≤ length (left_of k ss)

-- What a configuration wants: its plugins that are boxes, and the links of its addresses from outside. Enough boxes are left, of each filter one for each worker.
pub record IsWanted (given : Given) (config : Config) (w : Wants) : Type 0 where
  pub filters : w.filters ≡ wants_of kind.Filter (parts_of config.filters).plugins
  pub outputs : w.outputs ≡ wants_of kind.Output (parts_of config.outputs).plugins
  pub links : w.links ≡ outside_of config.inputs
  pub filters_left : AreLeft (names_of (so_often given.workers w.filters)) (given.stand kind.Filter).stocks
  pub outputs_left : AreLeft (names_of w.outputs) (given.stand kind.Output).stocks
