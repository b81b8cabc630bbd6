use Rattle.io_traits.proofs.Growth.{in_part_still}
use Rattle.line_outputs.proofs.stdout.write_flushed.Goals as goal

pub returns-clause-part : goal.returns-clause-part
returns-clause-part g c = in_part_still c.write_all.ensures.part c.flush.ensures.taken
