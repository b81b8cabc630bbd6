use Rattle.std.proofs.Common.{refl, sym, subst, ◌∙◌}
use Rattle.foreign_parts.specs.Stocks.{IsOut}
use Rattle.foreign_parts.specs.declared.boxes.BoxKind.TheVariants as kind
use Rattle.graph_checks.specs.Drawings.{AreDrawn}
use Rattle.graph_checks.specs.Drawns.{boxes_of}
use Rattle.graph_checks.proofs.Turning.{all_drawn}
use Rattle.graph_checks.proofs.drawing.draw_into.Goals as goal

pub returns-clause-drawn : goal.returns-clause-drawn
returns-clause-drawn g c =
    let f = c.draw_filters-filters.ensures in
    let o = c.draw_outputs-outputs.ensures in
    let l = c.draw_links-links.ensures in
    let rack = c.draw_filters-filters.new.rack in
    let outputs = boxes_of g.B.BoxPool.output_number c.draw_outputs-outputs.result.items in
    all_drawn (boxes_of g.B.BoxPool.filter_number c.draw_filters-filters.result.items) outputs
    refl refl f.outputs (l.filters ∙ o.filters) (l.given ∙ o.given ∙ f.given) f.given f.drawn
    (subst (AreDrawn (λ ss n. IsOut (g.B.BoxPool.given rack) (g.B.Boxes.stand rack kind.Filter).stocks ss n) outputs (g.B.Boxes.stand rack kind.Output).stocks) (sym l.outputs) o.drawn)
