use Rattle.std.proofs.Common.{arith}
use Rattle.event_tree.proofs.EventPuts.{take_kept, turned}
use Rattle.event_tree.proofs.event.Event.take_meta.Goals as goal

pub size_without-requires : goal.size_without-requires
size_without-requires c =
    let k = take_kept c.self.inside.meta c.self.inside.fields (turned c.self.inside.fields c.self.inside.meta c.self.invariant.0) c.self.inside.size (omega (arith, c.self.invariant.1)) c.args.parts.now c.take_in.new.target c.in-Some.cut.value c.in-Some.cut.key_size c.in-Some.ensures.taken c.in-Some.ensures.shorter in
    omega (arith, k.1)

pub overflow_sub-self : goal.overflow_sub-self
overflow_sub-self c =
    let k = take_kept c.self.inside.meta c.self.inside.fields (turned c.self.inside.fields c.self.inside.meta c.self.invariant.0) c.self.inside.size (omega (arith, c.self.invariant.1)) c.args.parts.now c.take_in.new.target c.in-Some.cut.value c.in-Some.cut.key_size c.in-Some.ensures.taken c.in-Some.ensures.shorter in
    omega (arith, k.1, c.size_without.ensures)

pub invariant_of-self : goal.invariant_of-self
invariant_of-self c =
    let k = take_kept c.self.inside.meta c.self.inside.fields (turned c.self.inside.fields c.self.inside.meta c.self.invariant.0) c.self.inside.size (omega (arith, c.self.invariant.1)) c.args.parts.now c.take_in.new.target c.in-Some.cut.value c.in-Some.cut.key_size c.in-Some.ensures.taken c.in-Some.ensures.shorter in
    (turned c.take_in.new.target c.self.inside.fields k.0, omega (arith, k.1, c.size_without.ensures))
