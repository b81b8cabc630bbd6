use Rattle.std.proofs.Common.{ap, arith}
use Rattle.in_tcp.proofs.Laying.{mark, shortened}
use Rattle.in_tcp.proofs.pieces.Pieces.shorten.Goals as goal

pub returns : goal.returns
returns c =
    let s = c.self.inside in
    shortened s.bytes.items s.start c.args.count s.marks.items c.push_front_reserved.new.self.items c.pop_front.new.self.items c.args.self.now c.in-Some.mark (mark c.in-Some.mark c.less-gave.result)
    c.self.view_is c.in-Some.ensures.items c.push_front_reserved.ensures.items (ap (mark c.in-Some.mark) c.less-gave.ensures) (omega (arith, c.self.invariant.0, c.self.invariant.1, s.bytes.ok.0)) c.requires
