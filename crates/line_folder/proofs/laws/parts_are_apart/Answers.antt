use Rattle.line_folder.proofs.Together.{parts_are_apart}
use Rattle.line_folder.proofs.laws.parts_are_apart.Goals as goal

pub returns : goal.returns
returns g c = parts_are_apart g.S.Store g.met.S.Store.images_tell
