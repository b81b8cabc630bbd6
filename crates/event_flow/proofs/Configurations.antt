-- The steps of a configuration mean what the configuration means.
use Rattle.std.proofs.Common.{◌≡◌, ℕ, ◌+◌, List, [], ◌++◌, length, ap, sym, subst, ◌∙◌, arith, append-nil}
use Rattle.event_tree.specs.Events.{Ev}
use Rattle.config_tree.specs.declared.tree.Config.{Config}
use Rattle.config_tree.specs.declared.tree.Statement.{Statement}
use Rattle.foreign_parts.specs.declared.filter.Verdict.{Verdict}
use Rattle.event_flow.specs.Flows.{Goes, nothing, each}
use Rattle.event_flow.specs.Laying.{HasPlugins, HasConditions, Lays, IsTableOf, AreStepsOf}
use Rattle.event_flow.specs.Marks.{Mark, Derives}
use Rattle.event_flow.specs.Meaning.{Makes, filter_section, output_section, flow_of}
use Rattle.event_flow.specs.Parts.{parts_of}
use Rattle.event_flow.specs.Places.{Draws}
use Rattle.event_flow.specs.Steps.{Table, from}
use Rattle.event_flow.specs.declared.step.FlowStep.{FlowStep}
use Rattle.event_flow.proofs.StepMeaning.{mean_behind}

none_plus : (n : ℕ) → 0 + n ≡ n
none_plus n = omega arith

module _ (config : Config) (ss ts : List FlowStep) (n t n' t' : ℕ) (first : Lays (parts_of config.filters) 0 0 ss n t) (second : Lays (parts_of config.outputs) n t ts n' t') where
  steps_mean : (makes : Makes) (draws : Draws) (table : Table) → IsTableOf makes config draws table → (e : Ev) → from table (ss ++ ts) 0 (λ x. nothing) e ≡ flow_of makes config draws e
  unfolding flow_of
  steps_mean makes draws table is e =
      let filters = first.means (filter_section makes) table 1 1 is.filters is.filter_conditions in
      let outputs = second.means (output_section draws) table 1 1
      (subst (λ m. HasPlugins (output_section draws) table m 1 (parts_of config.outputs).plugins) (sym (first.plugins ∙ none_plus (length (parts_of config.filters).plugins))) is.outputs)
      (subst (λ m. HasConditions (output_section draws) table m 1 (parts_of config.outputs).conditions) (sym (first.conditions ∙ none_plus (length (parts_of config.filters).conditions))) is.output_conditions) in
      let both = mean_behind table ss ts ((parts_of config.filters).flow (filter_section makes) 1 1) ((parts_of config.outputs).flow (output_section draws) 1 1) filters outputs in
      ap (λ us. from table us 0 (λ x. nothing) e) (sym (append-nil (ss ++ ts))) ∙ both.goes_on [] (λ x. nothing) e

-- the steps of the filters, and behind them those of the outputs
pub steps_of : (config : Config) (fs os : List Statement) (ss ts steps : List FlowStep) (n t n' t' : ℕ) → fs ≡ config.filters → os ≡ config.outputs → Lays (parts_of fs) 0 0 ss n t → Lays (parts_of os) n t ts n' t' → steps ≡ ss ++ ts → AreStepsOf config steps
steps_of config fs os ss ts steps n t n' t' filters outputs first second is =
    let one = subst (λ xs. Lays (parts_of xs) 0 0 ss n t) filters first in
    let two = subst (λ xs. Lays (parts_of xs) n t ts n' t') outputs second in
    subst (λ us. AreStepsOf config us) (sym is) (record { mean = steps_mean config ss ts n t n' t' one two })

-- what a batch did that went through the steps of a configuration is what the configuration derives of it
pub ran_config : (config : Config) (steps : List FlowStep) (makes : Makes) (draws : Draws) (table : Table) (may : ℕ → Ev → Verdict → Type 0) (events : List Ev) (ms : List Mark) → AreStepsOf config steps → IsTableOf makes config draws table → Derives may (each (from table steps 0 (λ e. nothing)) events) ms → Derives may (each (flow_of makes config draws) events) ms
ran_config config steps makes draws table may events ms steps_of is ran = subst (λ (goes : Goes). Derives may (each goes events) ms) (λ i e. steps_of.mean makes draws table is e i) ran
