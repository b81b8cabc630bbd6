use Rattle.line_folder.proofs.Together.{delivery_keeps_queue, delivery_keeps_open, letters_keep_queue, letters_keep_open}
use Rattle.line_folder.proofs.laws.outputs_leave_the_queue_ready.Goals as goal

pub returns-clause-delivery : goal.returns-clause-delivery
returns-clause-delivery g c = delivery_keeps_queue g.S.Store g.met.S.Store.images_tell

pub returns-clause-delivery_open : goal.returns-clause-delivery_open
returns-clause-delivery_open g c = delivery_keeps_open g.S.Store g.met.S.Store.images_tell

pub returns-clause-letters : goal.returns-clause-letters
returns-clause-letters g c = letters_keep_queue g.S.Store g.met.S.Store.images_tell

pub returns-clause-letters_open : goal.returns-clause-letters_open
returns-clause-letters_open g c = letters_keep_open g.S.Store g.met.S.Store.images_tell
