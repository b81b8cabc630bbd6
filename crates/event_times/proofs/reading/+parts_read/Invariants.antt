use Rattle.std.proofs.Common.{length}
use Rattle.event_times.proofs.reading.+parts_read.Given as goal

abbrev pub decreases-parts_read : goal.decreases-parts_read
decreases-parts_read l = length l.items.now
