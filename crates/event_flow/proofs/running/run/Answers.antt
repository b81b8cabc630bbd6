use Rattle.std.proofs.Common.{arith, ap, refl, ◌∙◌}
use Rattle.event_flow.specs.Marks.{marks}
use Rattle.event_flow.proofs.Batches.{running_starts, running_one, running_ends, same_first, same_then}
use Rattle.event_flow.proofs.Cells.{started_marks}
use Rattle.event_flow.proofs.Configurations.{ran_config}
use Rattle.event_flow.proofs.running.run.Goals as goal

pub loop-step-init : goal.loop-step-init
loop-step-init g c = record {
  stands = c.requires;
  same = same_first (g.K.Plugins.table c.args.kit.now) (g.K.Plugins.may c.args.kit.now);
  boxes = refl;
  running = running_starts (g.K.Plugins.table c.args.kit.now) (g.K.Plugins.may c.args.kit.now) c.args.steps.now c.args.events (marks (g.K.Plugins.table c.args.kit.now) c.in_ok-cells.cells)
      (ap (marks (g.K.Plugins.table c.args.kit.now)) c.in_ok-cells.ensures ∙ started_marks (g.K.Plugins.table c.args.kit.now) c.args.events);
}

pub loop-step-preserved : goal.loop-step-preserved
loop-step-preserved g c =
    let kit = g.K.Plugins in
    let e = c.in_ok-cells-2.ensures in
    let i = c.loop-step.invariant in
    record {
      stands = e.stands;
      same = same_then (kit.table c.args.kit.now) (kit.table c.loop-step.kit) (kit.table c.one_step.new.kit) (kit.may c.args.kit.now) (kit.may c.loop-step.kit) (kit.may c.one_step.new.kit) i.same e.table e.may;
      boxes = e.boxes ∙ i.boxes;
      running = running_one (kit.table c.args.kit.now) (kit.table c.loop-step.kit) (kit.may c.args.kit.now) (kit.may c.loop-step.kit) c.args.steps.now c.args.events (λ t. marks t c.loop-step.cells) (λ t. marks t c.in_ok-cells-2.cells) c.loop-step.step-index _ c.loop-step-test.true i.same i.running e.ok;
    }

pub returns-clause-ran : goal.returns-clause-ran
returns-clause-ran g c = running_ends (g.K.Plugins.table c.args.kit.now) (g.K.Plugins.may c.args.kit.now) c.args.steps.now c.args.events (marks (g.K.Plugins.table c.args.kit.now) c.loop-step.cells) c.loop-step.step-index (omega arith) c.loop-step.invariant.running

pub returns-clause-derived : goal.returns-clause-derived
returns-clause-derived g c makes config draws steps is =
    ran_config config c.args.steps.now makes draws (g.K.Plugins.table c.args.kit.now) (g.K.Plugins.may c.args.kit.now) c.args.events (marks (g.K.Plugins.table c.args.kit.now) c.loop-step.cells) steps is
    (running_ends (g.K.Plugins.table c.args.kit.now) (g.K.Plugins.may c.args.kit.now) c.args.steps.now c.args.events (marks (g.K.Plugins.table c.args.kit.now) c.loop-step.cells) c.loop-step.step-index (omega arith) c.loop-step.invariant.running)
