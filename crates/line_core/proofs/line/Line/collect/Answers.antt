use Rattle.std.proofs.Common.{ap, sym, subst}
use Rattle.line_core.specs.Parts.{boxes_of, path_of}
use Rattle.line_core.specs.Readiness.{StageFits}
use Rattle.line_core.specs.declared.batches.LineBatch.{LineBatch}
use Rattle.line_core.proofs.JobsHome.{result_fits}
use Rattle.line_core.proofs.LineStays.{can_with}
use Rattle.line_core.proofs.line.Line.collect.Goals as goal

pub returns-in-Ok-clause-can : goal.returns-in-Ok-clause-can
returns-in-Ok-clause-can g c =
    let l = c.args.self.now in
    let number = g.O.OutputCall.number in
    can_with number _ _ _ (record { targets = c.requires.can.targets; batches = c.requires.can.batches })
    (subst (StageFits number (path_of l) (boxes_of l)) (sym (ap (λ (b : LineBatch). b.stage) c.come_home.ensures))
    (result_fits number (path_of l) (boxes_of l) l.generation.outgoing c.in-Ok.made c.args.done.result c.in-Ok.is c.requires.result.due c.requires.can.targets))

pub returns-in-Err-clause-can : goal.returns-in-Err-clause-can
returns-in-Err-clause-can g c =
    let l = c.args.self.now in
    let number = g.O.OutputCall.number in
    can_with number _ _ _ (record { targets = c.requires.can.targets; batches = c.requires.can.batches })
    (subst (StageFits number (path_of l) (boxes_of l)) (sym (ap (λ (b : LineBatch). b.stage) c.lose.ensures)) tt)
