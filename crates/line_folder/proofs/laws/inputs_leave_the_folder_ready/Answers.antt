use Rattle.line_folder.proofs.Together.{inputs_keep_folder, inputs_keep_open}
use Rattle.line_folder.proofs.laws.inputs_leave_the_folder_ready.Goals as goal

pub returns-clause-folder : goal.returns-clause-folder
returns-clause-folder g c = inputs_keep_folder g.S.Store g.met.S.Store.images_tell

pub returns-clause-opens : goal.returns-clause-opens
returns-clause-opens g c = inputs_keep_open g.S.Store g.met.S.Store.images_tell
