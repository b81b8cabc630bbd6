use Rattle.std.proofs.Common.{[], All, ap, sym, subst, ◌∙◌}
use Rattle.event_flow.specs.Laying.{AreStepsOf}
use Rattle.foreign_parts.specs.declared.boxes.BoxKind.TheVariants as kind
use Rattle.plugin_graph.specs.Graphs.{steps_in}
use Rattle.graph_checks.specs.Numbering.{draws_behind}
use Rattle.graph_checks.specs.Planned.{inputs_from, planned_outputs}
use Rattle.graph_checks.specs.Plans.{IsKitOf}
use Rattle.graph_checks.proofs.compiling.prepare.Goals as goal

pub returns : goal.returns
returns g c = record {
  graph = subst (λ x. AreStepsOf c.args.config.now (steps_in x)) (sym c.in_ok-graph.ensures) c.in_ok-new.ensures;
  draws = c.in_ok-draws.ensures ∙ ap (λ ws. draws_behind [] ws (g.B.Boxes.stand c.args.rack.now kind.Output).stocks) c.as_slice.ensures;
  inputs = c.in_ok-inputs.ensures ∙ ap (inputs_from 1) c.as_slice-2.ensures;
  outgoing = c.in_ok-outgoing.ensures ∙ c.in_ok-plan_outputs.ensures ∙ ap (λ ds. planned_outputs ds c.args.config.now) c.as_slice-3.ensures;
  kits = subst (λ ds. All (IsKitOf ds c.args.config.now) c.in_ok-kits.kits.items) c.as_slice-4.ensures c.in_ok-kits.ensures.kits;
  no_boxes = c.in_ok-kits.ensures.boxes;
  workers_are = c.in_ok-kits.ensures.count;
  filters_wanted = c.in_ok-room.ensures.filters;
  outputs_wanted = c.in_ok-room.ensures.outputs;
  links_wanted = c.in_ok-room.ensures.links;
}
