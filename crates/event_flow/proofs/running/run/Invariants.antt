use Rattle.std.proofs.Common.{◌≡◌}
use Rattle.event_flow.specs.Marks.{marks}
use Rattle.event_flow.proofs.Batches.{Same, Running}
use Rattle.event_flow.proofs.running.run.Given as goal

abbrev pub invariant-loop-step : goal.invariant-loop-step
invariant-loop-step g l = record {
  stands : g.K.Plugins.stands l.kit;
  same : Same (g.K.Plugins.table l.fn.kit) (g.K.Plugins.table l.kit) (g.K.Plugins.may l.fn.kit) (g.K.Plugins.may l.kit);
  boxes : g.K.Plugins.boxes l.kit ≡ g.K.Plugins.boxes l.fn.kit;
  running : Running (g.K.Plugins.table l.fn.kit) (g.K.Plugins.may l.fn.kit) l.fn.steps l.fn.events (marks (g.K.Plugins.table l.fn.kit) l.cells) l.step-index;
}
