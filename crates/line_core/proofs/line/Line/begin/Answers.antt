use Rattle.line_core.proofs.PlanTargets.{can_deliver, none_out}
use Rattle.line_core.proofs.line.Line.begin.Goals as goal

pub returns-clause-can : goal.returns-clause-can
returns-clause-can g c =
    let l = c.line_of-line.ensures in
    can_deliver g.O.OutputCall.number c.line_of-line.result c.args.stands c.args.generation c.in_ok-boxes.boxes c.args.outputs.items l.folder l.generation l.boxes l.batches c.requires.boxes c.in_ok-boxes.ensures c.requires.outside

pub returns-clause-none : goal.returns-clause-none
returns-clause-none g c = none_out c.line_of-line.result
