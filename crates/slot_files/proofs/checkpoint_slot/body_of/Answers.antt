use Rattle.std.proofs.Common.{arith}
use Rattle.slot_files.proofs.checkpoint_slot.body_of.Goals as goal

pub returns-clause-fits : goal.returns-clause-fits
returns-clause-fits c = record { turn_fits = omega arith; page = omega arith; first_open = omega arith; least = omega arith; count = omega arith; length = omega arith }
