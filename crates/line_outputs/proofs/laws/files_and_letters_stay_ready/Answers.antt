use Rattle.line_outputs.proofs.Apart.{files_keep_letters, letters_keep_files}
use Rattle.line_outputs.proofs.laws.files_and_letters_stay_ready.Goals as goal

pub returns-clause-letters : goal.returns-clause-letters
returns-clause-letters g c = files_keep_letters g.S.Store g.met.S.Store.images_tell

pub returns-clause-files : goal.returns-clause-files
returns-clause-files g c = letters_keep_files g.S.Store g.met.S.Store.images_tell
