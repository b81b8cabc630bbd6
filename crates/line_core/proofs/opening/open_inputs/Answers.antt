use Rattle.line_core.proofs.InputsOpened.{inputs_ready}
use Rattle.line_core.proofs.opening.open_inputs.Goals as goal

pub open_input-requires-clause-opened : goal.open_input-requires-clause-opened
open_input-requires-clause-opened g c = c.loop-input.invariant.run.opened

pub returns-clause-ready : goal.returns-clause-ready
returns-clause-ready g c = let l = c.loop-input in inputs_ready g.S.Store c.args.folder.now l.watched l.inputs.items l.store l.invariant.run.opened
