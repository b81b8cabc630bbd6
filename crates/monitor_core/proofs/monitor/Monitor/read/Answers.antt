use Rattle.std.proofs.Common.{rules, arith, ◌≡◌, ◌+◌, sym, refl, subst}
use Rattle.monitor_core.specs.Counting.{counted}
use Rattle.monitor_core.proofs.Sums.{SoFar, none_yet, one_more}
use Rattle.monitor_core.proofs.monitor.Monitor.read.Goals as goal

pub loop-number-init : goal.loop-number-init
loop-number-init c = (refl, omega arith, none_yet c.args.seat.now.number (counted c.args.counter c.args.seat.now))

pub loop-number-preserved : goal.loop-number-preserved
loop-number-preserved c = (
  search rules,
  search rules,
  subst (λ t. SoFar (c.loop-number.number + 1) c.args.seat.now.number (counted c.args.counter c.args.seat.now) t) (sym c.with-total.ensures)
      (one_more c.loop-number.number c.args.seat.now.number (counted c.args.counter c.args.seat.now) c.loop-number.total c.look.result c.loop-number.invariant.2 (search rules) (subst (λ s. c.loop-number.number ≡ s.number → c.look.result ≡ counted c.args.counter s) c.loop-number.invariant.0 c.look.ensures.own)),
)
