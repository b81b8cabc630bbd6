use Rattle.line_outputs.proofs.Apart.{files_stand, files_stay_ready, outputs_stay_ready}
use Rattle.line_outputs.proofs.laws.others_change_nothing.Goals as goal

pub returns-clause-files : goal.returns-clause-files
returns-clause-files g c = files_stay_ready g.S.Store g.met.S.Store.images_tell

pub returns-clause-outputs : goal.returns-clause-outputs
returns-clause-outputs g c = outputs_stay_ready g.S.Store g.met.S.Store.images_tell

pub returns-clause-stands : goal.returns-clause-stands
returns-clause-stands g c = files_stand g.S.Store g.met.S.Store.images_tell
