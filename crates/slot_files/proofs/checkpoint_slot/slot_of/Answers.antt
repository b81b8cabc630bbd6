use Rattle.std.proofs.Common.{refl}
use Rattle.slot_files.specs.Checkpoints.{slot_body, slot_spelling}
use Rattle.slot_files.proofs.checkpoint_slot.slot_of.Goals as goal

pub returns-clause-spelling : goal.returns-clause-spelling
unfolding slot_body slot_spelling
returns-clause-spelling c = rw (c.write_u32.ensures, c.copy_from_slice.ensures.after, c.crc32.ensures, c.body_of-body.ensures.body) refl
