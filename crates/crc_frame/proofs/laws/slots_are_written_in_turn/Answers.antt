use Rattle.crc_frame.proofs.SlotLemmas.{torn_slot_is_not_read, next_slot_is_newest}
use Rattle.crc_frame.proofs.laws.slots_are_written_in_turn.Goals as goal

pub returns-clause-torn : goal.returns-clause-torn
returns-clause-torn c = torn_slot_is_not_read

pub returns-clause-written : goal.returns-clause-written
returns-clause-written c = next_slot_is_newest
