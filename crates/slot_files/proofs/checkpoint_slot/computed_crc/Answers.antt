use Rattle.std.proofs.Common.{arith, length-take}
use Rattle.slot_files.specs.Checkpoints.{computed_crc}
use Rattle.slot_files.proofs.checkpoint_slot.computed_crc.Goals as goal

pub slice_bounds-crc32-end : goal.slice_bounds-crc32-end
slice_bounds-crc32-end c = omega (arith, length-take 44 c.args.slot.now, c.requires)

pub returns : goal.returns
unfolding computed_crc
returns c = c.crc32.ensures
