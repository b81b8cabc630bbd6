use Rattle.std.proofs.Common.{◌≡◌, ◌++◌, length, take, drop, arith, ap, ◌∙◌}
use Rattle.std.proofs.lemmas.List.{nil_from_length}
use Rattle.event_flow.specs.Marks.{marks}
use Rattle.event_flow.proofs.Batches.{same_then}
use Rattle.event_flow.proofs.Cells.{through_one, through_all}
use Rattle.event_flow.proofs.running.step_rest.Goals as goal

pub loop-cell-preserved : goal.loop-cell-preserved
loop-cell-preserved g c =
    let kit = g.K.Plugins in
    let e = c.in_ok-add_step.ensures in
    let i = c.loop-cell.invariant in
    let next = c.in-Some.ensures.steps in
    record {
      stands = e.stands;
      same = same_then (kit.table c.args.kit.now) (kit.table c.loop-cell.kit) (kit.table c.add_step.new.kit) (kit.may c.args.kit.now) (kit.may c.loop-cell.kit) (kit.may c.add_step.new.kit) i.same e.table e.may;
      boxes = e.boxes ∙ i.boxes;
      through = through_one (kit.may c.args.kit.now) (kit.may c.loop-cell.kit) (kit.table c.args.kit.now) (kit.table c.loop-cell.kit) c.args.step (drop c.args.from c.args.cells) c.loop-cell.cell-iterator.rest.items c.next.new.self.rest.items (marks (kit.table c.args.kit.now) (take c.args.from c.args.cells ++ c.args.others)) c.loop-cell.out c.add_step.new.out c.in-Some.cell next.0 i.same i.through e.ok;
      counted = omega (arith, i.counted, next.1, ap length next.0);
    }

pub returns-clause-ok : goal.returns-clause-ok
returns-clause-ok g c =
    let none : length c.loop-cell.cell-iterator.rest.items ≡ 0 = omega (arith, c.loop-cell.invariant.counted, c.in-None.ensures.steps.0) in
    through_all (g.K.Plugins.may c.args.kit.now) (g.K.Plugins.table c.args.kit.now) c.args.step (drop c.args.from c.args.cells) c.loop-cell.cell-iterator.rest.items (marks (g.K.Plugins.table c.args.kit.now) (take c.args.from c.args.cells ++ c.args.others)) c.loop-cell.out (nil_from_length _ none) c.loop-cell.invariant.through
