use Rattle.std.proofs.Common.{◌++◌, subst}
use Rattle.event_flow.specs.Marks.{Yields, Meets, marks, marks_of}
use Rattle.event_flow.proofs.Cells.{went, stayed}
use Rattle.event_flow.proofs.stepping.meet_plugin.Goals as goal

pub returns-then-branch-clause-ok : goal.returns-then-branch-clause-ok
returns-then-branch-clause-ok g c e targets is =
    let may = g.K.Plugins.may c.args.kit.now in
    let table = g.K.Plugins.table c.args.kit.now in
    stayed may table c.args.number c.in-At.field-0 c.args.cell.now c.in-At.event e c.act.new.event c.in-At.targets targets c.act.new.targets c.args.others.now c.act.new.to
    c.in-At.is is c.requires.none
    (subst (λ stays. Yields (Meets may table c.args.number c.in-At.event c.in-At.targets) table stays c.act.new.event c.act.new.targets c.args.others.now c.act.new.to) c.if-branch.true c.in_ok-act-in-At.ensures.ok)

pub returns-else-branch-clause-ok : goal.returns-else-branch-clause-ok
returns-else-branch-clause-ok g c e targets is =
    let may = g.K.Plugins.may c.args.kit.now in
    let table = g.K.Plugins.table c.args.kit.now in
    went may table c.args.number c.in-At.field-0 c.args.cell.now c.in-At.event e c.act.new.event c.in-At.targets targets c.act.new.targets c.args.others.now c.act.new.to (marks_of table c.put_first.new.cell ++ marks table c.put_first.new.others)
    c.in-At.is is c.requires.none
    (subst (λ stays. Yields (Meets may table c.args.number c.in-At.event c.in-At.targets) table stays c.act.new.event c.act.new.targets c.args.others.now c.act.new.to) c.if-branch.false c.in_ok-act-in-At.ensures.ok)
    (c.put_first.ensures table)
