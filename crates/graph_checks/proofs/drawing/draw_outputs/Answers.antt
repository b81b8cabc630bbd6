use Rattle.std.proofs.Common.{[], ◌∷◌, length, length-append, ap, ◌∙◌, arith}
use Rattle.foreign_parts.specs.declared.boxes.BoxKind.TheVariants as kind
use Rattle.foreign_parts.specs.Stocks.{IsOut}
use Rattle.graph_checks.proofs.Turning.{draws, left_more, wants_more, output_out}
use Rattle.graph_checks.proofs.drawing.draw_outputs.Goals as goal

pub loop-want-preserved : goal.loop-want-preserved
loop-want-preserved g c =
    let i = c.loop-want.invariant in
    let next = c.in-Some.ensures.steps in
    let e = c.in-Some-take_output.ensures in
    let left = c.loop-want.want-iterator.rest.items in
    let rest = c.next.new.self.rest.items in
    let ds = c.loop-want.drawn.items in
    let more = c.push_reserved.ensures.items in
    record {
      drawn = draws ds c.push_reserved.new.self.items _ more g.B.BoxPool.output_number (λ ss n. IsOut (g.B.BoxPool.given c.args.rack.now) (g.B.Boxes.stand c.args.rack.now kind.Filter).stocks ss n) c.as_str.result.now c.as_str.ensures (g.B.Boxes.stand c.args.rack.now kind.Output).stocks (g.B.Boxes.stand c.loop-want.rack kind.Output).stocks (g.B.Boxes.stand c.take_output.new.self kind.Output).stocks i.drawn e.last (output_out (e.given ∙ i.given) (e.filters ∙ i.others) e.own) e.some;
      left = left_more left rest c.in-Some.want c.as_str.result.now (g.B.Boxes.stand c.loop-want.rack kind.Output).stocks (g.B.Boxes.stand c.take_output.new.self kind.Output).stocks next.0 c.as_str.ensures e.some i.left;
      wants = wants_more ds c.push_reserved.new.self.items _ more left rest c.args.wants next.0 i.wants;
      room = omega (arith, i.room, ap length next.0, ap length more ∙ length-append ds (_ ∷ []), c.push_reserved.ensures.capacity);
      others = e.filters ∙ i.others;
      links = e.links ∙ i.links;
      given = e.given ∙ i.given;
      counted = omega (arith, i.counted, next.1, ap length next.0);
    }
