use Rattle.line_inputs.proofs.Together.{SoFar}
use Rattle.line_inputs.proofs.watched.assure_each.Given as goal

abbrev pub invariant-loop-place : goal.invariant-loop-place
invariant-loop-place g l = SoFar g.S.Store l.fn.front l.fn.files.items l.place l.files.items l.fn.store l.store
