use Rattle.crc_frame.proofs.TornSlots.{first_slot_is_none_or_new, first_slot_is_read}
use Rattle.crc_frame.proofs.laws.a_torn_first_slot_leaves_none_or_the_new_one.Goals as goal

pub returns-clause-torn : goal.returns-clause-torn
returns-clause-torn c = first_slot_is_none_or_new

pub returns-clause-written : goal.returns-clause-written
returns-clause-written c = first_slot_is_read
