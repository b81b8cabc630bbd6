-- The checks of a whole configuration: those of its statements in the order of the text, and behind them those of the whole.
use Rattle.std.specs.Prelude.{ℕ, ◌*◌, ◌==◌, List, [], ◌∷◌, length, nat_lt, if◌then◌else◌, Ok, Err}
use Rattle.config_tree.specs.declared.tree.Config.{Config}
use Rattle.foreign_parts.specs.Links.{addresses_of}
use Rattle.foreign_parts.specs.Stocks.{left_of}
use Rattle.foreign_parts.specs.declared.links.LinkPlace.{LinkPlace}
use Rattle.graph_checks.specs.Answers.{Checked, next}
use Rattle.graph_checks.specs.Boxes.{Stand, Counts}
use Rattle.graph_checks.specs.Inputs.{inputs_checked}
use Rattle.graph_checks.specs.Plugins.{section_checked, stands}
use Rattle.foreign_parts.specs.declared.boxes.BoxKind.{BoxKind}
use Rattle.foreign_parts.specs.declared.boxes.BoxKind.TheVariants as kind
use Rattle.graph_checks.specs.declared.inputs.SeenInputs.{SeenInputs}
use Rattle.graph_checks.specs.declared.walk.Walk.{Walk}
use Rattle.graph_checks.specs.declared.fault.GraphFault.{GraphFault}
use Rattle.graph_checks.specs.declared.fault.GraphFault.TheVariants as fault

-- each address from outside has a link
abbrev pub links_checked : List (List ℕ) → List (List ℕ) → Checked (Unit {0})
links_checked links [] = Ok tt
links_checked links (a ∷ addresses) = if stands a links then links_checked links addresses else Err (fault.NoSpare a 1 0)

-- as many boxes of a name are left as are wanted
abbrev pub spare_checked : Stand → List ℕ → ℕ → Checked (Unit {0})
spare_checked stand k wanted =
    if nat_lt (length (left_of k stand.stocks)) wanted then Err (fault.NoSpare k wanted (length (left_of k stand.stocks))) else Ok tt

-- the same of each name, whose plugins want so many each
abbrev pub spares_checked : Stand → ℕ → Counts → Checked (Unit {0})
spares_checked stand each [] = Ok tt
spares_checked stand each (c ∷ cs) = next (λ u. spares_checked stand each cs) (spare_checked stand c.0 (c.1 * each))

-- there is one at least
abbrev pub some_there : GraphFault → ℕ → Checked (Unit {0})
some_there missing n = if n == 0 then Err missing else Ok tt

-- what is handed in, and how many workers there are: each filter that is a box wants one for each of them, and each output one
pub record Given : Type 0 where
  pub stand : BoxKind → Stand
  pub links : List (List ℕ)
  pub workers : ℕ

-- what is handed in by a rack, with so many workers
abbrev pub given_by : {S : Type 0} → (S → BoxKind → Stand) → (S → List LinkPlace) → S → ℕ → Given
given_by stand links rack workers = record { stand = stand rack; links = addresses_of (links rack); workers = workers }

-- the whole of a configuration of so many inputs, with these addresses from outside, filters that are boxes, and outputs
abbrev pub whole_of : Stand → Stand → List (List ℕ) → ℕ → ℕ → List (List ℕ) → Counts → Walk → Checked (Unit {0})
whole_of filters outputs links workers inputs outside filter_boxes os =
    next (λ a. next (λ b. next (λ c. next (λ d. spares_checked outputs 1 os.boxes)
    (spares_checked filters workers filter_boxes))
    (links_checked links outside))
    (some_there fault.NoOutput os.plugins))
    (some_there fault.NoInput inputs)

abbrev pub whole_checked : Given → ℕ → List (List ℕ) → Counts → Walk → Checked (Unit {0})
whole_checked given inputs outside filter_boxes os = whole_of (given.stand kind.Filter) (given.stand kind.Output) given.links given.workers inputs outside filter_boxes os

abbrev pub outputs_checked : Given → Config → SeenInputs → Walk → Checked (Unit {0})
outputs_checked given config ins fs =
    next (whole_checked given ins.inputs ins.outside fs.boxes) (section_checked kind.Output (given.stand kind.Output) 1 config.outputs fs.ids)

abbrev pub filters_checked : Given → Config → SeenInputs → Checked (Unit {0})
filters_checked given config ins =
    next (outputs_checked given config ins) (section_checked kind.Filter (given.stand kind.Filter) given.workers config.filters ins.ids)

-- nothing, where no check finds a fault, and else the first fault
unfoldable pub checked : Given → Config → Checked (Unit {0})
checked given config = next (filters_checked given config) (inputs_checked config.inputs)
