use Rattle.slot_files.proofs.CheckpointReads.{misplaced_turn_is_odd}
use Rattle.slot_files.proofs.checkpoint_laws.the_turn_of_a_misplaced_slot_is_odd.Goals as goal

pub returns : goal.returns
returns c = misplaced_turn_is_odd
