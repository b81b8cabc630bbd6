use Rattle.line_outputs.proofs.Unwritten.{not_begun}
use Rattle.line_outputs.proofs.letters.append_letters.Goals as goal

pub returns-then-not-all_fit-clause-any_moment : goal.returns-then-not-all_fit-clause-any_moment
returns-then-not-all_fit-clause-any_moment g c = not_begun g.S.Store g.met.S.Store.images_tell c.args.queue.now c.args.letters.now c.args.store.now c.requires.ready
