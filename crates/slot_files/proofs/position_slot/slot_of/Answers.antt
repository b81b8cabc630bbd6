use Rattle.std.proofs.Common.{refl, sym, subst, arith}
use Rattle.crc_frame.specs.Slots.{IsSlotOf}
use Rattle.slot_files.specs.Positions.{slot_body, slot_spelling}
use Rattle.slot_files.proofs.PositionBytes.{spelling_is_slot}
use Rattle.slot_files.proofs.position_slot.slot_of.Goals as goal

pub returns-clause-spelling : goal.returns-clause-spelling
unfolding slot_body slot_spelling
returns-clause-spelling c = rw (c.write_u32.ensures, c.copy_from_slice.ensures.after, c.crc32.ensures, c.body_of-body.ensures) refl

pub returns-clause-slot : goal.returns-clause-slot
returns-clause-slot c = subst (IsSlotOf 24 c.args.turn) (sym (returns-clause-spelling c)) (spelling_is_slot c.args.turn c.args.position (omega arith))
