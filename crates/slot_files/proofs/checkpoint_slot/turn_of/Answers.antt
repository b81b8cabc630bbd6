use Rattle.std.proofs.Common.{ap, ◌∙◌}
use Rattle.std.proofs.lemmas.List.{take_rest}
use Rattle.byteorder.specs.Endian.{big_number}
use Rattle.crc_frame.specs.Slots.{turn_of}
use Rattle.slot_files.proofs.checkpoint_slot.turn_of.Goals as goal

pub returns : goal.returns
unfolding turn_of
returns c = c.read_u64.ensures ∙ ap (big_number 8) (take_rest c.args.slot.now 2)
