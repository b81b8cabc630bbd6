use Rattle.std.proofs.Common.{rules, ◌≤◌, [], ◌∷◌, arith, length, length-append, sym, ◌∙◌, ap}
use Rattle.pipeline_bus.specs.Parcels.{ends_with_last}
use Rattle.pipeline_bus.specs.Counted.{popped}
use Rattle.pipeline_bus.proofs.Numbers.{to_room}
use Rattle.pipeline_bus.proofs.link.LinkTaker.show_one.Goals as goal

pub invariant_of-self : goal.invariant_of-self
invariant_of-self c =
    let t = to_room (popped c.args.self.now.parcels) c.args.self.now.room c.in-Some.parcel (popped c.pop.new.self) c.add.new.self c.args.self.now.split c.args.self.now.numbers (search rules) (search rules) (search rules) in
    let few : length c.add.new.self ≤ 16 = omega (arith, ap length c.add.ensures, length-append c.args.self.now.room (c.in-Some.parcel ∷ []), c.requires) in
    record { few = few; split = t.split; numbers = t.numbers; end = c.args.self.now.end ∙ ap ends_with_last (sym t.taken) }
