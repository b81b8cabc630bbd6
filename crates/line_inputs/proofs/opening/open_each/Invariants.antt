use Rattle.line_inputs.proofs.Opened.{SoFar}
use Rattle.line_inputs.proofs.opening.open_each.Given as goal

abbrev pub invariant-loop-place : goal.invariant-loop-place
invariant-loop-place g l = SoFar g.S.Store g.F.Files l.fn.folder l.fn.plan l.fn.paths l.place l.opened.items l.slots l.fn.store l.store l.fn.files l.files
