use Rattle.std.proofs.Common.{◌++◌, sym, subst}
use Rattle.event_flow.specs.Marks.{StepsAll, marks, marks_of}
use Rattle.event_flow.proofs.Cells.{skipped, tested_on}
use Rattle.event_flow.proofs.stepping.meet_step.Goals as goal

pub returns-in-Skip-clause-ok : goal.returns-in-Skip-clause-ok
returns-in-Skip-clause-ok g c e targets is =
    let table = g.K.Plugins.table c.args.kit.now in
    let may = g.K.Plugins.may c.args.kit.now in
    subst (λ x. StepsAll may table x (marks_of table c.args.cell.now) (marks_of table c.pass_over.new.cell ++ marks table c.args.others.now)) (sym c.in-Skip.is)
    (skipped may table c.in-Skip.over c.args.cell.now c.pass_over.new.cell e targets c.args.others.now is c.pass_over.ensures c.requires.none)

pub returns-in-Test-clause-ok : goal.returns-in-Test-clause-ok
returns-in-Test-clause-ok g c = tested_on c.meet_condition.result (g.K.Plugins.may c.args.kit.now) (g.K.Plugins.table c.args.kit.now) c.args.step c.in-Test.number c.in-Test.over c.args.cell.now c.meet_condition.new.cell c.args.others.now c.in-Test.is c.requires.none c.meet_condition.ensures.ok
