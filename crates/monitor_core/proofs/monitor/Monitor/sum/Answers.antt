use Rattle.std.proofs.Common.{rules, arith, ◌≡◌, ◌≤◌, ◌+◌, ◌*◌, ◌^◌, ap, ◌∙◌, refl, subst, set, get_or, map, take}
use Rattle.std.proofs.lemmas.List.{set-get_or}
use Rattle.monitor_core.specs.Places.{sum_of, any_last, total_of}
use Rattle.monitor_core.specs.Counting.{counted}
use Rattle.monitor_core.proofs.Sums.{summed_more, with_one}
use Rattle.monitor_core.proofs.monitor.Monitor.sum.Goals as goal

pub loop-at-init : goal.loop-at-init
unfolding sum_of any_last
loop-at-init c = (refl, omega arith, refl, omega arith)

pub loop-at-preserved : goal.loop-at-preserved
loop-at-preserved c = (kept, search rules, summed, bounded)
  where
    at : c.count.new.seat ≡ get_or c.loop-at.seats c.loop-at.at c.index-seats-at.result
    at = search rules

    kept : set c.loop-at.seats c.loop-at.at c.count.new.seat ≡ c.args.seats.now
    kept = ap (set c.loop-at.seats c.loop-at.at) at ∙ set-get_or c.loop-at.seats c.loop-at.at c.index-seats-at.result ∙ c.loop-at.invariant.0

    counted_there : c.count.result ≡ counted c.args.counter (get_or c.args.seats.now c.loop-at.at c.index-seats-at.result)
    counted_there = subst (λ xs. c.count.result ≡ counted c.args.counter (get_or xs c.loop-at.at c.index-seats-at.result)) c.loop-at.invariant.0 (search rules)

    summed : c.with-total.result ≡ total_of (map (counted c.args.counter) (take (c.loop-at.at + 1) c.args.seats.now))
    summed = c.with-total.ensures ∙ ap (with_one c.loop-at.total) counted_there
        ∙ summed_more (counted c.args.counter) c.args.seats.now c.loop-at.at c.index-seats-at.result c.loop-at.total c.loop-at-test.true c.loop-at.invariant.2

    bounded : c.with-total.result.sum ≤ (c.loop-at.at + 1) * 2 ^ 64
    bounded = omega (arith, ap (λ t. t.sum) c.with-total.ensures, c.loop-at.invariant.3, c.count.type_inv)
