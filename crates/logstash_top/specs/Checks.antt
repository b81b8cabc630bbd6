-- The checks of a configuration, and behind them those of the paths of its `file` outputs: none may stand in the folder of the queues.
use Rattle.std.specs.Prelude.{ℕ, ◌==◌, ◌&&◌, List, [], ◌∷◌, Bool, false, length, take, drop, bytes_eq, Ok, Err, if◌then◌else◌}
use Rattle.config_tree.specs.declared.tree.Config.{Config}
use Rattle.event_flow.specs.Parts.{parts_of}
use Rattle.foreign_parts.specs.declared.place.Place.{Place}
use Rattle.foreign_parts.specs.declared.place.Place.TheVariants as place
use Rattle.built_plugins.specs.Numbering.{outputs_of}
use Rattle.built_plugins.specs.declared.output.Target.{Target}
use Rattle.graph_checks.specs.Answers.{Checked, next}
use Rattle.graph_checks.specs.Whole.{Given, checked}
use Rattle.graph_checks.specs.declared.fault.GraphFault.TheVariants.{TwicePath}

abbrev pub begins_with_slash : List ℕ → Bool
begins_with_slash [] = false
begins_with_slash (b ∷ bs) = b == 47

-- a path begins with that of a folder and a slash
abbrev pub is_within : List ℕ → List ℕ → Bool
is_within folder path = bytes_eq (take (length folder) path) folder && begins_with_slash (drop (length folder) path)

-- a file that is written
abbrev pub file_checked : List ℕ → List ℕ → Checked (Unit {0})
file_checked folder path = if is_within folder path then Err (TwicePath path) else Ok tt

-- a place to which an output delivers
abbrev pub place_checked : List ℕ → Place → Checked (Unit {0})
place_checked folder place.Stdout = Ok tt
place_checked folder (place.File path) = file_checked folder path
place_checked folder (place.Address address) = Ok tt
place_checked folder (place.Foreign n) = Ok tt
place_checked folder place.Discard = Ok tt
place_checked folder place.Dead = Ok tt

-- the first that stands in the folder is the fault
abbrev pub targets_checked : List ℕ → List Target → Checked (Unit {0})
targets_checked folder [] = Ok tt
targets_checked folder (t ∷ ts) = next (λ u. targets_checked folder ts) (place_checked folder t.place)

-- nothing, where no check finds a fault, and else the first fault; the files of outputs don't hang on boxes
abbrev pub checked_all : Given → List ℕ → Config → Checked (Unit {0})
checked_all given folder config = next (λ u. targets_checked folder (outputs_of [] (parts_of config.outputs).plugins).targets) (checked given config)
