use Rattle.std.proofs.lemmas.List.{drop_more}
use Rattle.std.proofs.Common.{◌≡◌, ◌<◌, ◌+◌, ◌∷◌, ◌++◌, length, drop, sym, ap, ap₂, subst, ◌∙◌}
use Rattle.foreign_parts.specs.Stocks.{left_of}
use Rattle.foreign_parts.specs.declared.boxes.BoxKind.TheVariants as kind
use Rattle.graph_checks.specs.Numbering.{draws_behind, number_behind}
use Rattle.graph_checks.proofs.Numbers.{Suffice, draws_next, suffice_next, suffices}
use Rattle.graph_checks.proofs.draws.find_draws.Goals as goal

pub next_number-number-requires : goal.next_number-number-requires
next_number-number-requires g c =
    let ss = (g.B.Boxes.stand c.args.rack.now kind.Output).stocks in
    let i = c.loop-want.want-index in
    let w = c.want-item.result in
    let rest = drop (i + 1) c.args.wants.now in
    let is : drop i c.args.wants.now ≡ w ∷ rest = drop_more c.args.wants.now i w c.loop-want-test.true ∙ ap (λ x. x ∷ rest) (sym c.want-item.is) in
    subst (λ n. n < length (left_of w.name ss)) (sym c.count.ensures) (suffices ss c.loop-want.met w rest (subst (Suffice ss c.loop-want.met) is c.loop-want.invariant.left))

pub loop-want-preserved : goal.loop-want-preserved
loop-want-preserved g c =
    let ss = (g.B.Boxes.stand c.args.rack.now kind.Output).stocks in
    let i = c.loop-want.want-index in
    let w = c.want-item.result in
    let met = c.loop-want.met in
    let rest = drop (i + 1) c.args.wants.now in
    let is : drop i c.args.wants.now ≡ w ∷ rest = drop_more c.args.wants.now i w c.loop-want-test.true ∙ ap (λ x. x ∷ rest) (sym c.want-item.is) in
    let number = c.next_number-number.ensures ∙ ap (λ n. number_behind n (left_of w.name ss)) c.count.ensures in
    record {
      so_far = ap₂ (λ ds cs. ds ++ draws_behind cs rest ss) c.in_ok-add_draw.ensures c.in_ok-raise.ensures ∙ draws_next ss met w (drop i c.args.wants.now) rest c.next_number-number.result c.loop-want.draws _ is number c.loop-want.invariant.so_far;
      left = subst (λ cs. Suffice ss cs rest) (sym c.in_ok-raise.ensures) (suffice_next ss met w rest (subst (Suffice ss met) is c.loop-want.invariant.left));
    }
