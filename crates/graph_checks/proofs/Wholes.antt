-- The checks of a configuration one after another.
use Rattle.std.proofs.Common.{◌≡◌, ℕ, List, sym, ap, subst, ◌∙◌, Result, Ok}
use Rattle.config_tree.specs.declared.tree.Config.{Config}
use Rattle.graph_checks.specs.Answers.{Refuses, Gives, next}
use Rattle.graph_checks.specs.Boxes.{Stand, Counts}
use Rattle.graph_checks.specs.Inputs.{inputs_checked}
use Rattle.graph_checks.specs.Plugins.{section_checked}
use Rattle.graph_checks.specs.Whole.{Given, whole_of, whole_checked, outputs_checked, filters_checked, checked}
use Rattle.foreign_parts.specs.declared.boxes.BoxKind.TheVariants as kind
use Rattle.graph_checks.specs.declared.fault.GraphFault.{GraphFault}
use Rattle.graph_checks.specs.declared.inputs.SeenInputs.{SeenInputs}
use Rattle.graph_checks.specs.declared.walk.Walk.{Walk}
use Rattle.graph_checks.proofs.Going.{refuses_next, refuses_then}

module _ (given : Given) (config : Config) (ins : SeenInputs) (fs : Walk) where
  pub outputs_fail : (f : GraphFault) → inputs_checked config.inputs ≡ Ok ins → section_checked kind.Filter (given.stand kind.Filter) given.workers config.filters ins.ids ≡ Ok fs
      → Refuses f (section_checked kind.Output (given.stand kind.Output) 1 config.outputs fs.ids) → Refuses f (checked given config)
  unfolding checked
  outputs_fail f a b here =
      refuses_then f (filters_checked given config) (inputs_checked config.inputs) ins a
      (refuses_then f (outputs_checked given config ins) (section_checked kind.Filter (given.stand kind.Filter) given.workers config.filters ins.ids) fs b
      (refuses_next f (whole_checked given ins.inputs ins.outside fs.boxes) (section_checked kind.Output (given.stand kind.Output) 1 config.outputs fs.ids) here))

  pub whole_gives : (os : Walk) (r : Result (Unit {0}) GraphFault) → inputs_checked config.inputs ≡ Ok ins → section_checked kind.Filter (given.stand kind.Filter) given.workers config.filters ins.ids ≡ Ok fs
      → section_checked kind.Output (given.stand kind.Output) 1 config.outputs fs.ids ≡ Ok os → Gives r (whole_checked given ins.inputs ins.outside fs.boxes os) → Gives r (checked given config)
  unfolding checked
  whole_gives os r a b o h =
      subst (λ m. Gives r m) (sym (ap (next (filters_checked given config)) a ∙ ap (next (outputs_checked given config ins)) b ∙ ap (next (whole_checked given ins.inputs ins.outside fs.boxes)) o)) h

-- the same of what stands in the rack before
pub whole_before : {f g o p : Stand} {links others : List (List ℕ)} (r : Result (Unit {0}) GraphFault) (workers inputs : ℕ) (outside : List (List ℕ)) (boxes : Counts) (os : Walk) → f ≡ g → o ≡ p → links ≡ others
    → Gives r (whole_of f o links workers inputs outside boxes os) → Gives r (whole_of g p others workers inputs outside boxes os)
whole_before {f} {g} {o} {p} {links} {others} r workers inputs outside boxes os first second third h =
    subst (λ ln. Gives r (whole_of g p ln workers inputs outside boxes os)) third
    (subst (λ st. Gives r (whole_of g st links workers inputs outside boxes os)) second
    (subst (λ st. Gives r (whole_of st o links workers inputs outside boxes os)) first h))
