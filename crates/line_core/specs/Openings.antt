-- What a line that is opened is opened by, and what damage it may find.
use Rattle.std.specs.Prelude.{◌≡◌, ◌≤◌, ◌<◌, ◌^◌, ℕ, true, List, [], length, map, Result, Ok, Err}
use Rattle.std.specs.List.{AllByRecursion, list_any}
use Rattle.std.specs.Str.{bytes_eq}
use Rattle.io_traits.specs.Folders.{Content}
use Rattle.io_traits.specs.Reads.{bytes_of}
use Rattle.io_traits.specs.declared.queue_faults.Damage.{Damage}
use Rattle.io_traits.specs.declared.stores.Store.{Ghosts as StoreWords}
use Rattle.slot_files.specs.Positions.{recorded_in}
use Rattle.in_file.specs.Openings.{IsDamaged}
use Rattle.in_file.specs.declared.faults.OpenFault.{OpenFault}
use Rattle.in_file.specs.declared.faults.OpenFault.TheVariants as o
use Rattle.config_tree.specs.declared.tree.Plugin.{Plugin}
use Rattle.foreign_parts.specs.declared.place.Place.{Place}
use Rattle.foreign_parts.specs.declared.place.Place.TheVariants as place
use Rattle.built_plugins.specs.declared.output.Target.{Target}
use Rattle.graph_checks.specs.Planned.{inputs_from, planned_outputs}
use Rattle.graph_checks.specs.declared.drawn.Drawn.{Drawn}
use Rattle.graph_checks.specs.declared.planned.PlannedInput.{PlannedInput}
use Rattle.graph_checks.specs.declared.planned.PlannedOutputs.{PlannedOutputs}
use Rattle.line_inputs.specs.Positions.{AreReady}
use Rattle.line_inputs.specs.Rows.{Noted}
use Rattle.line_outputs.specs.OpenFiles.{IsOutside}
use Rattle.line_folder.specs.FileNames.{input_slot}
use Rattle.line_machine.specs.declared.calls.LineFault.{LineFault}
use Rattle.line_machine.specs.declared.calls.LineFault.TheVariants as fault
use Rattle.line_core.specs.Readiness.{connections_by, watched_by}
use Rattle.line_core.specs.declared.generation.Generation.{Generation}
use Rattle.line_core.specs.declared.line.LineInput.{LineInput}

-- a place is no file of the folder
abbrev pub IsPlaceOutside : List ℕ → Place → Type 0
IsPlaceOutside folder place.Stdout = Unit {0}
IsPlaceOutside folder (place.File path) = IsOutside folder path
IsPlaceOutside folder (place.Address address) = Unit {0}
IsPlaceOutside folder (place.Foreign n) = Unit {0}
IsPlaceOutside folder place.Discard = Unit {0}
IsPlaceOutside folder place.Dead = Unit {0}

-- the files to which outputs write stand outside of the folder
abbrev pub AreOutside : List ℕ → PlannedOutputs → Type 0
AreOutside folder outgoing = AllByRecursion (λ (t : Target). IsPlaceOutside folder t.place) outgoing.outputs.targets

-- the ids of inputs can be origins of rows
abbrev pub IsShort : PlannedInput → Type 0
IsShort i = (1 ≤ length i.id) × (length i.id ≤ 255)

abbrev pub AreShort : List PlannedInput → Type 0
AreShort inputs = AllByRecursion IsShort inputs

-- a law: those of a plan can
abbrev pub PlannedAreShort : Type 0
PlannedAreShort = (plugins : List Plugin) → length plugins < 2 ^ 64 → AreShort (inputs_from 1 plugins)

-- an input has no connection
abbrev pub HasNone : List ℕ → Type 0
HasNone connections = connections ≡ []

-- the position file of an input is damaged so, as a store reads
abbrev pub FindsPosition : Content → Damage → Type 0
FindsPosition content damage = IsDamaged damage.file (recorded_in (bytes_of (content damage.file))) damage

-- what the opening of the input at a place came to, to the line
abbrev pub input_fault : ℕ → OpenFault → LineFault
input_fault at o.Store = fault.Store
input_fault at o.Files = fault.Input at
input_fault at (o.Damaged damage) = fault.Damaged damage
input_fault at o.Memory = fault.Memory

abbrev pub opened_at : {T : Type 0} → ℕ → Result T OpenFault → Result T LineFault
opened_at at (Ok made) = Ok made
opened_at at (Err f) = Err (input_fault at f)

-- a file that is watched has the position file of its path, which is one of these paths
pub record IsNamedAmong (folder : List ℕ) (paths : List (List ℕ)) (n : Noted) : Type 0 where
  pub slot : n.watched.slot ≡ input_slot folder n.watched.path
  pub path : list_any (bytes_eq n.watched.path) paths ≡ true

module _ {S : Type 0} (store : StoreWords S) where
  -- inputs that were opened one after another, which watch files of these paths
  pub record AreOpened (folder : List ℕ) (paths : List (List ℕ)) (inputs : List LineInput) (s : S) : Type 0 where
    pub ready : AreReady store (watched_by inputs) s
    pub named : AllByRecursion (IsNamedAmong folder paths) (watched_by inputs)
    pub connections : AllByRecursion HasNone (connections_by inputs)

module _ {F O : Type 0} (number : O → ℕ) where
  -- the outputs of a generation are those of its configuration, for which these boxes were drawn
  pub record HasBoxes (generation : Generation F) (outputs : List (Drawn O)) : Type 0 where
    pub outgoing : generation.outgoing ≡ planned_outputs generation.draws generation.config
    pub draws : generation.draws ≡ map (λ (d : Drawn O). (d.want.id, number d.plugged)) outputs
