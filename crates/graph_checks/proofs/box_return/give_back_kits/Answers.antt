use Rattle.std.proofs.Common.{◌≡◌, ◌-◌, ℕ, List, suc, map, refl, sym, ap, subst, ◌∙◌, arith}
use Rattle.foreign_parts.specs.declared.boxes.BoxKind.TheVariants as kind
use Rattle.foreign_parts.specs.Stocks.{IsOut, Stock}
use Rattle.plugin_graph.specs.Graphs.{contents_of}
use Rattle.graph_checks.specs.Drawings.{MayGoBack, all_back}
use Rattle.graph_checks.specs.Drawns.{boxes_of}
use Rattle.graph_checks.specs.Plans.{column, columns, rows, width}
use Rattle.graph_checks.proofs.Restoring.{may_in}
use Rattle.graph_checks.proofs.Returnings.{column_may, columns_back, columns_may}
use Rattle.graph_checks.proofs.box_return.give_back_kits.Goals as goal

pub loop-at-init : goal.loop-at-init
loop-at-init g c =
    let rack = c.args.rack.now in
    let kits = c.args.kits.items in
    let number = g.B.BoxPool.filter_number in
    let first = (g.B.Boxes.stand rack kind.Filter).stocks in
    let out : List Stock → ℕ → Type 0 = λ ss n. IsOut (g.B.BoxPool.given rack) ss (g.B.Boxes.stand rack kind.Output).stocks n in
    let wide = c.most_filters-at.ensures ∙ ap (λ ks. width (map contents_of ks)) c.as_slice.ensures.value in
    record {
      may = subst (λ n. MayGoBack out (boxes_of number (columns n (rows kits))) first) (sym wide) c.requires;
      back = ap (λ n. all_back (boxes_of number (columns n (rows kits))) first) wide;
      others = refl;
      links = refl;
      given = refl;
    }

pub give_back_column-requires : goal.give_back_column-requires
give_back_column-requires g c =
    let rack = c.args.rack.now in
    let l = c.loop-at in
    let number = g.B.BoxPool.filter_number in
    let ss = (g.B.Boxes.stand l.rack kind.Filter).stocks in
    let out : List Stock → ℕ → Type 0 = λ ss n. IsOut (g.B.BoxPool.given rack) ss (g.B.Boxes.stand rack kind.Output).stocks n in
    let less : l.at ≡ suc (l.at - 1) = omega (arith, c.loop-at-test.true) in
    may_in (boxes_of number (column (l.at - 1) (rows l.kits.items))) (sym l.invariant.given) (sym l.invariant.others) refl
    (column_may number out (l.at - 1) l.kits.items ss (subst (λ n. MayGoBack out (boxes_of number (columns n (rows l.kits.items))) ss) less l.invariant.may))

pub loop-at-preserved : goal.loop-at-preserved
loop-at-preserved g c =
    let rack = c.args.rack.now in
    let l = c.loop-at in
    let e = c.give_back_column.ensures in
    let number = g.B.BoxPool.filter_number in
    let ss = (g.B.Boxes.stand l.rack kind.Filter).stocks in
    let left = (g.B.Boxes.stand c.give_back_column.new.rack kind.Filter).stocks in
    let out : List Stock → ℕ → Type 0 = λ ss n. IsOut (g.B.BoxPool.given rack) ss (g.B.Boxes.stand rack kind.Output).stocks n in
    let less : l.at ≡ suc (l.at - 1) = omega (arith, c.loop-at-test.true) in
    let may = subst (λ n. MayGoBack out (boxes_of number (columns n (rows l.kits.items))) ss) less l.invariant.may in
    let so_far = ap (λ n. all_back (boxes_of number (columns n (rows l.kits.items))) ss) (sym less) ∙ l.invariant.back in
    record {
      may = columns_may number out (l.at - 1) l.kits.items ss may c.give_back_column.new.kits.items left e.filters e.before;
      back = columns_back number out (l.at - 1) l.kits.items ss may c.give_back_column.new.kits.items left e.filters e.before _ so_far;
      others = e.outputs ∙ l.invariant.others;
      links = e.links ∙ l.invariant.links;
      given = e.given ∙ l.invariant.given;
    }
