use Rattle.crc_frame.proofs.TornSlots.{next_slot_is_old_or_new, next_slot_is_read}
use Rattle.crc_frame.proofs.laws.a_torn_slot_leaves_the_old_or_the_new_one.Goals as goal

pub returns-clause-torn : goal.returns-clause-torn
returns-clause-torn c = next_slot_is_old_or_new

pub returns-clause-written : goal.returns-clause-written
returns-clause-written c = next_slot_is_read
