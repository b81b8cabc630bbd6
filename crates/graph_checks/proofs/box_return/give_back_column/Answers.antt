use Rattle.std.proofs.Common.{◌≡◌, ◌-◌, ℕ, List, suc, length, rules, refl, sym, subst, ◌∙◌, arith, slice_get}
use Rattle.foreign_parts.specs.declared.boxes.BoxKind.TheVariants as kind
use Rattle.foreign_parts.specs.Stocks.{IsOut, Stock}
use Rattle.plugin_graph.specs.Graphs.{boxes_in}
use Rattle.graph_checks.specs.Drawns.{boxes_of}
use Rattle.graph_checks.specs.Plans.{held}
use Rattle.graph_checks.proofs.Restoring.{may_in}
use Rattle.graph_checks.proofs.Returnings.{WentBack, none_back, one_back, one_may}
use Rattle.graph_checks.proofs.box_return.give_back_column.Goals as goal

pub loop-next-init : goal.loop-next-init
loop-next-init g c =
    let rack = c.args.rack.now in
    let kits = c.args.kits.now.items in
    let first = (g.B.Boxes.stand rack kind.Filter).stocks in
    let out : List Stock → ℕ → Type 0 = λ ss n. IsOut (g.B.BoxPool.given rack) ss (g.B.Boxes.stand rack kind.Output).stocks n in
    let count : c.len-next.result ≡ length kits = search rules in
    record {
      went = subst (λ n. WentBack g.B.BoxPool.filter_number out c.args.at kits first n kits first) (sym count) (none_back g.B.BoxPool.filter_number out c.args.at kits first c.requires);
      others = refl;
      links = refl;
      given = refl;
    }

pub give_back_one-requires : goal.give_back_one-requires
give_back_one-requires g c =
    let rack = c.args.rack.now in
    let kits = c.args.kits.now.items in
    let l = c.loop-next in
    let first = (g.B.Boxes.stand rack kind.Filter).stocks in
    let ss = (g.B.Boxes.stand l.rack kind.Filter).stocks in
    let out : List Stock → ℕ → Type 0 = λ ss n. IsOut (g.B.BoxPool.given rack) ss (g.B.Boxes.stand rack kind.Output).stocks n in
    let less : l.next ≡ suc (l.next - 1) = omega (arith, c.loop-next-test.true) in
    may_in (boxes_of g.B.BoxPool.filter_number (held (slice_get (boxes_in c.index_mut.result.now) c.args.at))) (sym l.invariant.given) (sym l.invariant.others) refl
    (one_may g.B.BoxPool.filter_number out c.args.at kits first (l.next - 1) l.kits.items ss (subst (λ n. WentBack g.B.BoxPool.filter_number out c.args.at kits first n l.kits.items ss) less l.invariant.went) c.index_mut.result.now c.index_mut.ensures.value)

pub loop-next-preserved : goal.loop-next-preserved
loop-next-preserved g c =
    let rack = c.args.rack.now in
    let kits = c.args.kits.now.items in
    let l = c.loop-next in
    let e = c.give_back_one.ensures in
    let first = (g.B.Boxes.stand rack kind.Filter).stocks in
    let ss = (g.B.Boxes.stand l.rack kind.Filter).stocks in
    let out : List Stock → ℕ → Type 0 = λ ss n. IsOut (g.B.BoxPool.given rack) ss (g.B.Boxes.stand rack kind.Output).stocks n in
    let less : l.next ≡ suc (l.next - 1) = omega (arith, c.loop-next-test.true) in
    record {
      went = one_back g.B.BoxPool.filter_number out c.args.at kits first (l.next - 1) l.kits.items ss (subst (λ n. WentBack g.B.BoxPool.filter_number out c.args.at kits first n l.kits.items ss) less l.invariant.went) c.index_mut.result.now c.index_mut.ensures.value
          c.give_back_one.new.kit (g.B.Boxes.stand c.give_back_one.new.rack kind.Filter).stocks e.filters e.before;
      others = e.outputs ∙ l.invariant.others;
      links = e.links ∙ l.invariant.links;
      given = e.given ∙ l.invariant.given;
    }
