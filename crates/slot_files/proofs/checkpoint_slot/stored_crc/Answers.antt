use Rattle.std.proofs.Common.{ap, ◌∙◌}
use Rattle.std.proofs.lemmas.List.{take_rest}
use Rattle.byteorder.specs.Endian.{big_number}
use Rattle.slot_files.specs.Checkpoints.{stored_crc}
use Rattle.slot_files.proofs.checkpoint_slot.stored_crc.Goals as goal

pub returns : goal.returns
unfolding stored_crc
returns c = c.read_u32.ensures ∙ ap (big_number 4) (take_rest c.args.slot.now 44)
