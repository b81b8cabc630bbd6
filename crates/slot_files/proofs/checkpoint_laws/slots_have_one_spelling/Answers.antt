use Rattle.slot_files.proofs.CheckpointBytes.{slots_are_read_back, slots_are_spelled}
use Rattle.slot_files.proofs.checkpoint_laws.slots_have_one_spelling.Goals as goal

pub returns-clause-read_back : goal.returns-clause-read_back
returns-clause-read_back c = slots_are_read_back

pub returns-clause-spelled : goal.returns-clause-spelled
returns-clause-spelled c = slots_are_spelled
