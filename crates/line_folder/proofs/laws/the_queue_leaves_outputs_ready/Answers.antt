use Rattle.line_folder.proofs.Together.{queue_keeps_outputs}
use Rattle.line_folder.proofs.laws.the_queue_leaves_outputs_ready.Goals as goal

pub returns : goal.returns
returns g c = queue_keeps_outputs g.S.Store g.met.S.Store.images_tell
