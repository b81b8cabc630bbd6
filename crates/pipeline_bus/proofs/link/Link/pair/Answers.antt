use Rattle.std.proofs.Common.{rules, ◌≡◌, [], arith, refl}
use Rattle.pipeline_bus.specs.Parcels.{ends_with_last, numbered}
use Rattle.pipeline_bus.specs.Counted.{popped}
use Rattle.pipeline_bus.proofs.link.Link.pair.Goals as goal

pub invariant_of-taker : goal.invariant_of-taker
unfolding numbered ends_with_last
invariant_of-taker c =
    let none : popped c.new-3.result ≡ [] = search rules in
    let room : c.in_ok-new.field-0 ≡ [] = search rules in
    record { few = rw room (omega arith); split = rw (none, room) refl; numbers = rw none refl; end = rw (none, room) refl }
