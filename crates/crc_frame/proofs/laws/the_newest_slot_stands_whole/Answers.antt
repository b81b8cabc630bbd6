use Rattle.crc_frame.proofs.TornSlots.{newest_stands_whole, turns_fit}
use Rattle.crc_frame.proofs.laws.the_newest_slot_stands_whole.Goals as goal

pub returns-clause-whole : goal.returns-clause-whole
returns-clause-whole c = newest_stands_whole

pub returns-clause-turn : goal.returns-clause-turn
returns-clause-turn c = turns_fit
