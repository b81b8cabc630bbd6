use Rattle.slot_files.specs.Checkpoints.{version_of}
use Rattle.slot_files.proofs.checkpoint_slot.version_of.Goals as goal

pub returns : goal.returns
unfolding version_of
returns c = c.read_u16.ensures
