-- Steps that are laid for statements.
use Rattle.std.specs.Prelude.{◌≡◌, ℕ, suc, ◌+◌, List, [], ◌∷◌, ◌++◌, length, Option, Some, None}
use Rattle.event_tree.specs.Events.{Ev}
use Rattle.config_tree.specs.declared.tree.Plugin.{Plugin}
use Rattle.config_tree.specs.declared.tree.Condition.{Condition}
use Rattle.condition_eval.specs.Truths.{truth}
use Rattle.config_tree.specs.declared.tree.Config.{Config}
use Rattle.event_flow.specs.Flows.{Goes, nothing}
use Rattle.event_flow.specs.Meaning.{Makes, filter_section, output_section, flow_of}
use Rattle.event_flow.specs.Parts.{Part, Section, parts_of}
use Rattle.event_flow.specs.Places.{Draws}
use Rattle.event_flow.specs.Steps.{Table, Mean, acted, from}
use Rattle.event_flow.specs.declared.step.FlowStep.{FlowStep}
use Rattle.event_flow.specs.declared.step.FlowStep.TheVariants as step
use Rattle.event_flow.specs.declared.block.Block.{Block}
use Rattle.event_flow.specs.declared.block.Flattened.{Flattened}

-- the plugins of a table from the number n on are these, which a section counts from k on
abbrev pub HasPlugins : Section → Table → ℕ → ℕ → List Plugin → Type 0
HasPlugins section table n k [] = Unit {0}
HasPlugins section table n k (p ∷ ps) = ((goes : Goes) (e : Ev) → acted (table.acts n e) goes e ≡ section.meets k p goes e) × HasPlugins section table (n + 1) (k + 1) ps

-- the conditions of a table from the number t on are these, which a section counts from u on
abbrev pub HasConditions : Section → Table → ℕ → ℕ → List Condition → Type 0
HasConditions section table t u [] = Unit {0}
HasConditions section table t u (c ∷ cs) = ((e : Ev) → table.says t e ≡ truth c e) × (table.ids t ≡ section.condition_id u) × HasConditions section table (t + 1) (u + 1) cs

-- by any table that has the plugins and conditions of a part, the steps mean what the part does; and these are the next numbers
pub record Lays (p : Part) (n t : ℕ) (ss : List FlowStep) (n' t' : ℕ) : Type 0 where
  pub plugins : n' ≡ n + length p.plugins
  pub conditions : t' ≡ t + length p.conditions
  pub means : (section : Section) (table : Table) (k u : ℕ) → HasPlugins section table n k p.plugins → HasConditions section table t u p.conditions → Mean table ss (p.flow section k u)

abbrev pub IsLaid : Part → ℕ → ℕ → Flattened → Type 0
IsLaid p n t laid = Lays p n t laid.steps laid.plugin laid.condition

-- a table has the plugins and conditions of a configuration: those of its filters from 0 on, and behind them those of its outputs
pub record IsTableOf (makes : Makes) (config : Config) (draws : Draws) (table : Table) : Type 0 where
  pub filters : HasPlugins (filter_section makes) table 0 1 (parts_of config.filters).plugins
  pub filter_conditions : HasConditions (filter_section makes) table 0 1 (parts_of config.filters).conditions
  pub outputs : HasPlugins (output_section draws) table (length (parts_of config.filters).plugins) 1 (parts_of config.outputs).plugins
  pub output_conditions : HasConditions (output_section draws) table (length (parts_of config.filters).conditions) 1 (parts_of config.outputs).conditions

-- by each table of a configuration, the steps do with an event what the configuration means
pub record AreStepsOf (config : Config) (steps : List FlowStep) : Type 0 where
  pub mean : (makes : Makes) (draws : Draws) (table : Table) → IsTableOf makes config draws table → (e : Ev) → from table steps 0 (λ e. nothing) e ≡ flow_of makes config draws e

-- the number of an arm's condition, and how many conditions that is
abbrev pub number_of : Option Condition → ℕ → Option ℕ
number_of None t = None
number_of (Some c) t = Some t

abbrev pub count : Option ℕ → ℕ
count None = 0
count (Some t) = 1

-- a block in front of the arms behind it, which are passed over at its end, where there are any
abbrev pub closing : List FlowStep → List FlowStep
closing [] = []
closing (s ∷ ss) = step.Skip (suc (length ss)) ∷ s ∷ ss

-- how many steps are passed over where the condition of a block is No
abbrev pub behind_block : ℕ → List FlowStep → ℕ
behind_block n [] = n
behind_block n (s ∷ ss) = n + 1

abbrev pub opening : Option ℕ → ℕ → List FlowStep
opening None n = []
opening (Some t) n = step.Test t n ∷ []

abbrev pub with_block : Block → List FlowStep → List FlowStep
with_block b rest = opening b.condition (behind_block (length b.steps) rest) ++ b.steps ++ closing rest

abbrev pub assembled : List Block → List FlowStep → List FlowStep
assembled [] rest = rest
assembled (b ∷ bs) rest = with_block b (assembled bs rest)
