use Rattle.line_folder.proofs.Together.{acknowledged_keeps_folder}
use Rattle.line_folder.proofs.laws.acknowledged_rows_leave_the_folder_ready.Goals as goal

pub returns : goal.returns
returns g c = acknowledged_keeps_folder g.S.Store g.met.S.Store.images_tell
