use Rattle.event_flow.proofs.Configurations.{steps_of}
use Rattle.event_flow.proofs.flattening.flatten_config.Goals as goal

pub returns : goal.returns
returns c =
    let f = c.in_ok-filters.filters in
    let o = c.in_ok-outputs.outputs in
    steps_of c.args.config.now c.as_slice.result.now c.as_slice-2.result.now f.steps o.steps c.in_ok-steps.field-0.steps f.plugin f.condition o.plugin o.condition c.as_slice.ensures c.as_slice-2.ensures c.in_ok-filters.ensures c.in_ok-outputs.ensures c.in_ok-steps.ensures.0
