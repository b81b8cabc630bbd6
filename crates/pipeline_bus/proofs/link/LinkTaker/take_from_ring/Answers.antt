use Rattle.std.proofs.Common.{rules, ◌≡◌, ◌≤◌, length, drop, ◌∙◌, refl}
use Rattle.pipeline_bus.specs.Counted.{popped, pushed, misses}
use Rattle.pipeline_bus.proofs.Numbers.{from_ring}
use Rattle.pipeline_bus.proofs.link.LinkTaker.take_from_ring.Goals as goal

pub invariant_of-self-2 : goal.invariant_of-self-2
invariant_of-self-2 c =
    let t = from_ring (popped c.args.self.now.parcels) c.args.self.now.room c.in_ok-parcel.parcel (popped c.pop.new.self) c.requires c.args.self.now.split c.args.self.now.numbers (search rules) (search rules) in
    let few : length c.args.self.now.room ≤ 16 = c.args.self.now.few in
    record { few = few; split = t.split; numbers = t.numbers; end = c.is_last-self.ensures ∙ t.end }

pub returns-clause-some : goal.returns-clause-some
returns-clause-some c =
    let t = from_ring (popped c.args.self.now.parcels) c.args.self.now.room c.in_ok-parcel.parcel (popped c.pop.new.self) c.requires c.args.self.now.split c.args.self.now.numbers (search rules) (search rules) in
    let room_same : c.args.self.now.room ≡ drop 1 c.args.self.now.room = rw c.requires refl in
    let misses_same : misses c.pop.new.self ≡ misses c.args.self.now.parcels = search rules in
    (λ i. record { taken = t.taken i; room = room_same i; given = pushed c.args.self.now.answers; take_misses = misses_same i; tell_misses = misses c.args.self.now.answers }, t.next)
