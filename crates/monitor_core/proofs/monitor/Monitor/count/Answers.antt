use Rattle.std.proofs.Common.{arith, ap}
use Rattle.monitor_core.proofs.Keeping.{reads, place_few}
use Rattle.monitor_core.proofs.monitor.Monitor.count.Goals as goal

pub load-requires : goal.load-requires
load-requires c = (c.requires, omega (arith, place_few c.args.counter, c.place.ensures, c.args.seat.now.within, ap (λ t. t.words) c.requires), reads _ _ _ _)
