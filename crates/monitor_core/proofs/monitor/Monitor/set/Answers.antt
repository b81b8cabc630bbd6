use Rattle.std.proofs.Common.{arith, ap}
use Rattle.monitor_core.proofs.Keeping.{stores, place_few}
use Rattle.monitor_core.proofs.monitor.Monitor.set.Goals as goal

pub store-requires : goal.store-requires
store-requires c = (
  c.requires,
  omega (arith, place_few c.args.counter, c.place.ensures, c.args.seat.now.within, ap (λ t. t.words) c.requires),
  stores _ _ _ _ _ (omega (arith, c.args.seat.now.begins)) (omega (arith, place_few c.args.counter, c.place.ensures, c.args.seat.now.begins, c.args.seat.now.four)),
)
