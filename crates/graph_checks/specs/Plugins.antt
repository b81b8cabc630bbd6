-- The checks of the filters and of the outputs, in the order of the text.
use Rattle.std.specs.Prelude.{◌≡◌, ℕ, ◌+◌, List, [], ◌∷◌, ◌++◌, length, nat_lt, Bool, if◌then◌else◌, bytes_eq, codes, Option, Some, None, Ok, Err}
use Rattle.std.specs.List.{list_any}
use Rattle.config_tree.specs.declared.tree.Plugin.{Plugin}
use Rattle.config_tree.specs.declared.tree.Condition.{Condition}
use Rattle.config_tree.specs.declared.tree.Statement.{Statement}
use Rattle.config_tree.specs.declared.fault.FromFault.{FromFault}
use Rattle.config_tree.specs.declared.fault.FromFault.TheVariants as from
use Rattle.slot_files.specs.Names.{position_name}
use Rattle.slot_files.specs.declared.name.PositionOf.{PositionOf}
use Rattle.slot_files.specs.declared.name.PositionOf.TheVariants as position
use Rattle.foreign_parts.specs.Stocks.{is_known}
use Rattle.event_flow.specs.Ids as ids
pub use Rattle.built_plugins.specs.Conditions.{patterns_read}
use Rattle.graph_checks.specs.Answers.{Checked, next, of_plugin, all_checked}
use Rattle.graph_checks.specs.Boxes.{Stand, count_of, one_more, box_read}
use Rattle.graph_checks.specs.BuiltIn.{built_in}
use Rattle.graph_checks.specs.Points.{Point, Plugs, Tests, points_of}
use Rattle.foreign_parts.specs.declared.boxes.BoxKind.{BoxKind}
use Rattle.foreign_parts.specs.declared.boxes.BoxKind.TheVariants as kind
use Rattle.graph_checks.specs.declared.built_in.BuiltIn.{BuiltIn}
use Rattle.graph_checks.specs.declared.walk.Walk.{Walk}
use Rattle.graph_checks.specs.declared.fault.GraphFault.{GraphFault}
use Rattle.graph_checks.specs.declared.fault.GraphFault.TheVariants as fault

-- a text stands among others
abbrev pub stands : List ℕ → List (List ℕ) → Bool
stands s ss = list_any (bytes_eq s) ss

-- a text behind those that were met, where it doesn't stand among them; and else a fault
abbrev pub met_behind : GraphFault → List ℕ → List (List ℕ) → Checked (List (List ℕ))
met_behind twice s ss = if stands s ss then Err twice else Ok (ss ++ s ∷ [])

abbrev pub id_behind : List ℕ → List (List ℕ) → Checked (List (List ℕ))
id_behind id ids = met_behind (fault.TwiceId id) id ids

abbrev pub path_behind : List ℕ → List (List ℕ) → Checked (List (List ℕ))
path_behind path paths = met_behind (fault.TwicePath path) path paths

-- the name of the position file of a path is not too long
abbrev pub path_fits : PositionOf → List ℕ → Checked (Unit {0})
path_fits of path = if nat_lt 250 (length (position_name of path)) then Err (fault.PathLong path) else Ok tt

-- a path with a position file behind those that were met
abbrev pub path_met : PositionOf → List ℕ → List (List ℕ) → Checked (List (List ℕ))
path_met of path paths = next (λ met. next (λ u. Ok met) (path_fits of path)) (path_behind path paths)

-- how a section is called in ids
abbrev pub section_name : BoxKind → List ℕ
section_name kind.Filter = codes "filter"
section_name kind.Output = codes "output"

-- the id of the next plugin, and of the next condition
abbrev pub id_next : BoxKind → Walk → Plugin → List ℕ
id_next which w p = ids.plugin_id (section_name which) (w.plugins + 1) p

abbrev pub condition_id_next : BoxKind → Walk → List ℕ
condition_id_next which w = ids.condition_id (section_name which) (w.conditions + 1)

-- a plugin that is a box is wanted
abbrev pub with_want : List ℕ → List ℕ → Walk → Walk
with_want id name w = record w { boxes = one_more name w.boxes; wants = w.wants ++ (record { id = id; name = name }) ∷ [] }

-- a plugin that is no built-in one has to be a box
abbrev pub box_checked : BoxKind → Stand → List ℕ → Plugin → Walk → Checked Walk
box_checked which stand id p w =
    if is_known p.name stand.stocks
    then next (λ u. Ok (with_want id p.name w)) (of_plugin id (box_read which stand w.each (count_of p.name w.boxes) p.name p.settings.list))
    else Err (fault.UnknownPlugin p.name)

-- the fault of settings, told with the id of their plugin; memory may run out in its place
abbrev pub IsSettingFault : List ℕ → FromFault → GraphFault → Type 0
IsSettingFault id (from.Bad f) told = told ≡ fault.Setting id f
IsSettingFault id from.Memory told = told ≡ fault.Memory

-- a plugin with its id, and with the path that it writes
abbrev pub id_met : List ℕ → Walk → Checked Walk
id_met id w = next (λ met. Ok (record w { ids = met; plugins = w.plugins + 1 })) (id_behind id w.ids)

abbrev pub output_met : Option (List ℕ) → Walk → Checked Walk
output_met None w = Ok w
output_met (Some path) w = next (λ met. Ok (record w { paths = met })) (path_met position.Output path w.paths)

abbrev pub plugin_met : List ℕ → Option (List ℕ) → Walk → Checked Walk
plugin_met id path w = next (output_met path) (id_met id w)

-- one plugin: its name, its settings, its id, and the path of an output
abbrev pub plugin_read : BoxKind → Stand → List ℕ → Plugin → Walk → Option BuiltIn → Checked Walk
plugin_read which stand id p w None = next (plugin_met id None) (box_checked which stand id p w)
plugin_read which stand id p w (Some b) = plugin_met id b.path w

unfoldable pub plugin_checked : BoxKind → Stand → Plugin → Walk → Checked Walk
plugin_checked which stand p w = next (plugin_read which stand (id_next which w p) p w) (of_plugin (id_next which w p) (built_in which p.name p.settings.list))

-- one condition, and the one in front of the block of an arm, where it has one
abbrev pub condition_checked : BoxKind → Condition → Walk → Checked Walk
condition_checked which c w = next (λ u. Ok (record w { conditions = w.conditions + 1 })) (of_plugin (condition_id_next which w) (patterns_read c))

abbrev pub arm_checked : BoxKind → Option Condition → Walk → Checked Walk
arm_checked which None w = Ok w
arm_checked which (Some c) w = condition_checked which c w

abbrev pub point_checked : BoxKind → Stand → Point → Walk → Checked Walk
point_checked which stand (Plugs p) w = plugin_checked which stand p w
point_checked which stand (Tests c) w = condition_checked which c w

-- what stands in a section, one after another
abbrev pub points_checked : BoxKind → Stand → List Point → Walk → Checked Walk
points_checked which stand ps w = all_checked (point_checked which stand) ps w

-- before the first plugin of a section, each of which wants so many boxes, where these ids were met
abbrev pub section_start : ℕ → List (List ℕ) → Walk
section_start each ids = record { each = each; plugins = 0; conditions = 0; boxes = []; wants = []; ids = ids; paths = [] }

unfoldable pub section_checked : BoxKind → Stand → ℕ → List Statement → List (List ℕ) → Checked Walk
section_checked which stand each ss ids = points_checked which stand (points_of ss) (section_start each ids)
