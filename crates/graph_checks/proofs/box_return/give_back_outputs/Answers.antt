use Rattle.std.proofs.Common.{◌≡◌, ◌++◌, [], ◌∷◌, sym, ◌∙◌, rules}
use Rattle.foreign_parts.specs.declared.boxes.BoxKind.TheVariants as kind
use Rattle.foreign_parts.specs.Stocks.{IsOut}
use Rattle.graph_checks.proofs.Turning.{is_out, is_own, others_may, others_back, output_out}
use Rattle.graph_checks.proofs.box_return.give_back_outputs.Goals as goal

pub return_output-requires-clause-out : goal.return_output-requires-clause-out
return_output-requires-clause-out g c =
    let last : c.loop-drawn.left.items ≡ c.pop.new.self.items ++ c.in-Some.drawn ∷ [] = search rules in
    is_out c.pop.new.self.items c.loop-drawn.left.items c.in-Some.drawn last g.B.BoxPool.output_number (λ ss n. IsOut (g.B.BoxPool.given c.args.rack.now) (g.B.Boxes.stand c.args.rack.now kind.Filter).stocks ss n) c.as_str.result.now c.as_str.ensures (g.B.Boxes.stand c.loop-drawn.rack kind.Output).stocks c.loop-drawn.invariant.may

pub return_output-requires-clause-own : goal.return_output-requires-clause-own
return_output-requires-clause-own g c =
    let i = c.loop-drawn.invariant in
    let last : c.loop-drawn.left.items ≡ c.pop.new.self.items ++ c.in-Some.drawn ∷ [] = search rules in
    output_out (sym i.given) (sym i.others)
    (is_own c.pop.new.self.items c.loop-drawn.left.items c.in-Some.drawn last g.B.BoxPool.output_number (λ ss n. IsOut (g.B.BoxPool.given c.args.rack.now) (g.B.Boxes.stand c.args.rack.now kind.Filter).stocks ss n) c.as_str.result.now c.as_str.ensures (g.B.Boxes.stand c.loop-drawn.rack kind.Output).stocks i.may)

pub loop-drawn-preserved : goal.loop-drawn-preserved
loop-drawn-preserved g c =
    let i = c.loop-drawn.invariant in
    let e = c.return_output.ensures in
    let last : c.loop-drawn.left.items ≡ c.pop.new.self.items ++ c.in-Some.drawn ∷ [] = search rules in
    record {
      may = others_may c.pop.new.self.items c.loop-drawn.left.items c.in-Some.drawn last g.B.BoxPool.output_number (λ ss n. IsOut (g.B.BoxPool.given c.args.rack.now) (g.B.Boxes.stand c.args.rack.now kind.Filter).stocks ss n) c.as_str.result.now c.as_str.ensures (g.B.Boxes.stand c.loop-drawn.rack kind.Output).stocks i.may (g.B.Boxes.stand c.return_output.new.self kind.Output).stocks e.outputs;
      back = others_back c.pop.new.self.items c.loop-drawn.left.items c.in-Some.drawn last g.B.BoxPool.output_number (λ ss n. IsOut (g.B.BoxPool.given c.args.rack.now) (g.B.Boxes.stand c.args.rack.now kind.Filter).stocks ss n) c.as_str.result.now c.as_str.ensures (g.B.Boxes.stand c.loop-drawn.rack kind.Output).stocks i.may (g.B.Boxes.stand c.return_output.new.self kind.Output).stocks _ e.outputs i.back;
      others = e.filters ∙ i.others;
      links = e.links ∙ i.links;
      given = e.given ∙ i.given;
    }
