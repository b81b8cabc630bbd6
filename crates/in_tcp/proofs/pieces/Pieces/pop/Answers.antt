use Rattle.std.proofs.Common.{arith}
use Rattle.in_tcp.proofs.Laying.{popped_from}
use Rattle.in_tcp.proofs.pieces.Pieces.pop.Goals as goal

pub invariant_of-self-else-is_empty : goal.invariant_of-self-else-is_empty
invariant_of-self-else-is_empty c =
    let s = c.self.inside in
    let p = popped_from s.bytes.items s.start s.marks.items c.pop_front.new.self.items c.args.self.now c.self.view_is c.pop_front.ensures.rest (omega (arith, c.self.invariant.0, c.self.invariant.1, s.bytes.ok.0)) c.requires in
    (omega (arith, p.0, c.self.invariant.0), c.self.invariant.1)

pub returns-else-is_empty : goal.returns-else-is_empty
returns-else-is_empty c =
    let s = c.self.inside in
    (popped_from s.bytes.items s.start s.marks.items c.pop_front.new.self.items c.args.self.now c.self.view_is c.pop_front.ensures.rest (omega (arith, c.self.invariant.0, c.self.invariant.1, s.bytes.ok.0)) c.requires).1
