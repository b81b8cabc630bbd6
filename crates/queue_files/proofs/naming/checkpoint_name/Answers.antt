use Rattle.std.proofs.Common.{◌≡◌, ◌++◌, IfOk, codes, List, ◌∙◌, subst}
use Rattle.queue_files.proofs.FileNumbers.{number_is}
use Rattle.queue_files.proofs.naming.checkpoint_name.Goals as goal

pub returns : goal.returns
returns c = subst (λ (t : List _). IfOk c.joined.result (λ name. name ≡ c.args.folder.now ++ (codes "checkpoint." ++ t))) (c.format.ensures.text ∙ number_is c.args.number c.ranges.number.fits) c.joined.ensures
