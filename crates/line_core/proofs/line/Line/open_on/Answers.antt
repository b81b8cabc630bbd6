use Rattle.std.proofs.Common.{inl, inr, rules}
use Rattle.line_machine.specs.declared.calls.LineFault.TheVariants as fault
use Rattle.line_core.proofs.LineOpened.{line_ready, of_inputs}
use Rattle.line_core.proofs.line.Line.open_on.Goals as goal

pub returns-in-Ok-clause-ready : goal.returns-in-Ok-clause-ready
returns-in-Ok-clause-ready g c =
    let i = c.open_inputs-inputs in
    let b = c.begin.ensures in
    line_ready g.S.Store g.met.S.Store.images_tell c.open_folder.new.store i.new.store i.ensures.any_moment i.ensures.reads (λ made. made.items) c.args.folder.now c.in-Ok.stands i.result c.begin.result c.in-Ok.ensures.ready c.in-Ok.ensures.path
    i.ensures.ready b.folder b.inputs b.open

pub returns-in-Ok-clause-damaged : goal.returns-in-Ok-clause-damaged
returns-in-Ok-clause-damaged g c = λ damage is told.
    let i = c.open_inputs-inputs in
    inr (i.ensures.damaged damage (of_inputs i.result c.begin.result (fault.Damaged damage) c.begin.ensures.err is (λ memory. cc)) told)

pub returns-in-Ok-clause-failed : goal.returns-in-Ok-clause-failed
returns-in-Ok-clause-failed g c = λ n is.
    let i = c.open_inputs-inputs in
    i.ensures.failed n (of_inputs i.result c.begin.result (fault.Input n) c.begin.ensures.err is (λ memory. cc))

pub returns-clause-damaged : goal.returns-clause-damaged
returns-clause-damaged g c = λ damage is told. inl (c.open_folder.ensures.damaged damage (search (is, c.in-Err.is, rules)) told)

pub returns-clause-failed : goal.returns-clause-failed
returns-clause-failed g c = λ n is. absurd (c.open_folder.ensures.input n (search (is, c.in-Err.is, rules)))
