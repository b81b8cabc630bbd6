use Rattle.line_folder.proofs.Together.{inputs_keep_inputs, queue_keeps_inputs, delivery_keeps_inputs, letters_keep_inputs}
use Rattle.line_folder.proofs.laws.inputs_stay_ready.Goals as goal

pub returns-clause-queue : goal.returns-clause-queue
returns-clause-queue g c = queue_keeps_inputs g.S.Store g.met.S.Store.images_tell

pub returns-clause-delivery : goal.returns-clause-delivery
returns-clause-delivery g c = delivery_keeps_inputs g.S.Store g.met.S.Store.images_tell

pub returns-clause-letters : goal.returns-clause-letters
returns-clause-letters g c = letters_keep_inputs g.S.Store g.met.S.Store.images_tell

pub returns-clause-inputs : goal.returns-clause-inputs
returns-clause-inputs g c = inputs_keep_inputs g.S.Store g.met.S.Store.images_tell
