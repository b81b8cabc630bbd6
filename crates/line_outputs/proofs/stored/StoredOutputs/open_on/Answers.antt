use Rattle.line_outputs.proofs.Unwritten.{not_opened}
use Rattle.line_outputs.proofs.stored.StoredOutputs.open_on.Goals as goal

pub returns-in_err-files-clause-any_moment : goal.returns-in_err-files-clause-any_moment
returns-in_err-files-clause-any_moment g c = not_opened g.S.Store c.args.folder.now c.args.store.now
