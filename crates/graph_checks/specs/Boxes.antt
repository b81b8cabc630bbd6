-- The boxes that a configuration wants, and what they say to its settings.
use Rattle.std.specs.Prelude.{ℕ, zero, suc, ◌+◌, ◌-◌, ◌*◌, List, [], ◌∷◌, length, if◌then◌else◌, bytes_eq, codes, Option, Some, None, option_and_then, slice_get, Ok, Err}
use Rattle.std.specs.Map.{lookup}
use Rattle.event_tree.specs.Paths.{over}
use Rattle.config_tree.specs.Joining.{Entries}
use Rattle.config_tree.specs.declared.tree.SettingValue.{SettingValue}
use Rattle.config_tree.specs.declared.fault.SettingFault.{SettingFault}
use Rattle.filter_settings.specs.Readers.{id_of}
use Rattle.filter_settings.specs.Settings.{Made, next, wanted, with_made, all_set}
use Rattle.foreign_parts.specs.Stocks.{left_of, refusals_of}
pub use Rattle.foreign_parts.specs.Boxes.{Stand, Keeps}
use Rattle.foreign_parts.specs.declared.boxes.BoxKind.{BoxKind}
use Rattle.foreign_parts.specs.declared.boxes.BoxKind.TheVariants as kind
use Rattle.built_plugins.specs.Makes.{boxed_of}
use Rattle.built_plugins.specs.declared.boxed.BoxedFilter.{BoxedFilter}
use Rattle.graph_checks.specs.declared.box_settings.BoxedOutput.{BoxedOutput}

-- names, each with how many plugins of it there are
abbrev pub Counts : Type 0
Counts = List (List ℕ × ℕ)

-- how many there are of a name
abbrev pub count_of : List ℕ → Counts → ℕ
count_of k cs = over (λ n. n) 0 (lookup (bytes_eq k) cs)

-- one more of a name
abbrev pub one_more : List ℕ → Counts → Counts
one_more k [] = (k, 1) ∷ []
one_more k (c ∷ cs) = if bytes_eq k c.0 then (c.0, c.1 + 1) ∷ cs else c ∷ one_more k cs

-- one setting of an output that is a box: its id is tested here, and the others are its own
abbrev pub boxed_output_set : List ℕ → SettingValue → BoxedOutput → Made BoxedOutput
boxed_output_set k x b = if bytes_eq k (codes "id") then with_made (λ id. b) (wanted k (id_of x)) else Ok b

abbrev boxed_output_of : Entries → Made BoxedOutput
boxed_output_of es = all_set boxed_output_set es (record {})

-- of the settings of a plugin that is a box those are read here that every plugin of its kind has
abbrev pub shared_of : BoxKind → Entries → Made (Unit {0})
shared_of kind.Filter es = with_made (λ (b : BoxedFilter). tt) (boxed_of es)
shared_of kind.Output es = with_made (λ (b : BoxedOutput). tt) (boxed_output_of es)

abbrev pub first_refusal : Option SettingFault → Option SettingFault → Option SettingFault
first_refusal (Some fault) later = Some fault
first_refusal None later = later

-- what the box at a place refuses
abbrev pub refused_at : List (Entries → Option SettingFault) → Entries → ℕ → Option SettingFault
refused_at refusals es at = option_and_then (λ refusal. refusal es) (slice_get refusals at)

-- What the boxes refuse that are drawn next where so many are left, the last of them first, if so many are wanted. Where no more are left none is asked.
abbrev pub refused_below : List (Entries → Option SettingFault) → Entries → ℕ → ℕ → Option SettingFault
refused_below refusals es zero wanted = None
refused_below refusals es (suc at) zero = None
refused_below refusals es (suc at) (suc wanted) = first_refusal (refused_at refusals es at) (refused_below refusals es at wanted)

abbrev pub unless_refused : Option SettingFault → Made (Unit {0})
unless_refused None = Ok tt
unless_refused (Some fault) = Err fault

-- how many boxes of a name are left, once so many were taken
abbrev pub left_behind : List ℕ → ℕ → Stand → ℕ
left_behind k taken stand = length (left_of k stand.stocks) - taken

-- what the boxes refuse that a plugin is to have, where each plugin has so many and so many plugins of its name stand before it
abbrev pub asked : Stand → ℕ → ℕ → List ℕ → Entries → Made (Unit {0})
asked stand each before k es = unless_refused (refused_below (refusals_of k stand.refusals) es (left_behind k (before * each) stand) each)

-- the settings of a plugin that is a box: first those that every plugin has, and then by the boxes
abbrev pub box_read : BoxKind → Stand → ℕ → ℕ → List ℕ → Entries → Made (Unit {0})
box_read which stand each before k es = next (λ u. asked stand each before k es) (shared_of which es)
