use Rattle.std.proofs.Common.{◌≡◌, ◌-◌, suc, map, refl, sym, subst, ap, ◌∙◌, arith}
use Rattle.plugin_graph.specs.Graphs.{contents_of}
use Rattle.graph_checks.specs.Plans.{width}
use Rattle.graph_checks.proofs.Fillings.{HandedOut, all_handed, handed_next, handed_none}
use Rattle.graph_checks.proofs.kit_boxes.hand_out.Goals as goal

pub loop-at-init : goal.loop-at-init
loop-at-init g c =
    let old = c.args.kits.now.items in
    let n = width (map contents_of old) in
    subst (λ at. HandedOut n old c.args.boxes.items at old c.args.boxes.items) (sym (c.most_filters-at.ensures ∙ ap (λ ks. width (map contents_of ks)) c.as_slice.ensures.value))
    (handed_none n old c.args.boxes.items refl c.requires.none (sym c.requires.enough))

pub loop-at-preserved : goal.loop-at-preserved
loop-at-preserved g c =
    let old = c.args.kits.now.items in
    let n = width (map contents_of old) in
    let l = c.loop-at in
    let e = c.fill_column.ensures in
    let less : l.at ≡ suc (l.at - 1) = omega (arith, c.loop-at-test.true) in
    handed_next n old c.args.boxes.items (l.at - 1) l.kits.items c.fill_column.new.kits.items l.left.items c.fill_column.new.boxes.items
    (subst (λ at. HandedOut n old c.args.boxes.items at l.kits.items l.left.items) less l.invariant) e.stand e.boxes e.behind e.contents e.built

pub returns-clause-boxes : goal.returns-clause-boxes
returns-clause-boxes g c =
    let old = c.args.kits.now.items in
    let n = width (map contents_of old) in
    let l = c.loop-at in
    let none : l.at ≡ 0 = omega (arith, c.loop-at-test.false) in
    all_handed n old c.args.boxes.items l.kits.items l.left.items (subst (λ at. HandedOut n old c.args.boxes.items at l.kits.items l.left.items) none l.invariant) refl
