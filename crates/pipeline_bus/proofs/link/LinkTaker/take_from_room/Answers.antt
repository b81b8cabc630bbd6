use Rattle.std.proofs.Common.{rules, ◌≡◌, ◌≤◌, ◌∷◌, arith, length, drop, sym, ◌∙◌, ap}
use Rattle.pipeline_bus.specs.Counted.{popped, pushed, misses}
use Rattle.pipeline_bus.proofs.Numbers.{from_room}
use Rattle.pipeline_bus.proofs.link.LinkTaker.take_from_room.Goals as goal

pub invariant_of-self-2 : goal.invariant_of-self-2
invariant_of-self-2 c =
    let e : c.args.self.now.room ≡ c.in_ok-parcel.parcel ∷ c.take_oldest.new.self = search rules in
    let t = from_room (popped c.args.self.now.parcels) c.args.self.now.room c.in_ok-parcel.parcel c.take_oldest.new.self e c.args.self.now.split c.args.self.now.numbers in
    let few : length c.take_oldest.new.self ≤ 16 = omega (arith, ap length e, c.args.self.now.few) in
    record { few = few; split = t.split; numbers = t.numbers; end = c.is_last-self.ensures ∙ t.end }

pub returns-clause-some : goal.returns-clause-some
returns-clause-some c =
    let e : c.args.self.now.room ≡ c.in_ok-parcel.parcel ∷ c.take_oldest.new.self = search rules in
    let t = from_room (popped c.args.self.now.parcels) c.args.self.now.room c.in_ok-parcel.parcel c.take_oldest.new.self e c.args.self.now.split c.args.self.now.numbers in
    let less : c.take_oldest.new.self ≡ drop 1 c.args.self.now.room = sym (ap (drop 1) e) in
    (λ i. record { taken = t.taken i; room = less i; given = pushed c.args.self.now.answers; take_misses = misses c.args.self.now.parcels; tell_misses = misses c.args.self.now.answers }, t.next)
