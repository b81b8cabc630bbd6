use Rattle.std.proofs.Common.{◌≡◌, ap, sym, ◌∙◌, arith, slice_get, slice_set, true, false}
use Rattle.event_tree.specs.Paths.{over}
use Rattle.plugin_graph.specs.Graphs.{boxes_in, contents_of}
use Rattle.built_plugins.specs.Makes.{is_boxed}
use Rattle.graph_checks.specs.Filling.{one_if}
use Rattle.graph_checks.proofs.Fillings.{boxes_boxed, boxes_plain, get_other, popped, stands_boxed, stands_plain}
use Rattle.graph_checks.proofs.kit_boxes.fill.Goals as goal

pub returns-then-wants_box-clause-stands : goal.returns-then-wants_box-clause-stands
returns-then-wants_box-clause-stands g c =
    let kit = c.args.kit.now in
    let e = c.replace_box.ensures in
    let is : over is_boxed false (slice_get (contents_of kit).filters c.args.at) ≡ true = sym c.wants_box.ensures ∙ c.if-wants_box.true in
    let (x, r, old) = popped c.pop-plugged.new.self.items c.args.boxes.now.items c.pop-plugged.result c.pop-plugged.ensures.items (c.pop-plugged.ensures.variant.1 (omega (arith, c.requires.enough, ap one_if is))) in
    stands_boxed c.args.at kit c.requires.stands c.replace_box.new.self is x (e.boxes ∙ ap (slice_set (boxes_in kit) c.args.at) r) e.contents

pub returns-then-wants_box-clause-boxes : goal.returns-then-wants_box-clause-boxes
returns-then-wants_box-clause-boxes g c =
    let kit = c.args.kit.now in
    let e = c.replace_box.ensures in
    let is : over is_boxed false (slice_get (contents_of kit).filters c.args.at) ≡ true = sym c.wants_box.ensures ∙ c.if-wants_box.true in
    let (x, r, old) = popped c.pop-plugged.new.self.items c.args.boxes.now.items c.pop-plugged.result c.pop-plugged.ensures.items (c.pop-plugged.ensures.variant.1 (omega (arith, c.requires.enough, ap one_if is))) in
    boxes_boxed c.args.at kit c.requires.stands c.replace_box.new.self is x (e.boxes ∙ ap (slice_set (boxes_in kit) c.args.at) r) e.contents c.pop-plugged.new.self.items c.args.boxes.now.items old

pub returns-then-wants_box-clause-behind : goal.returns-then-wants_box-clause-behind
returns-then-wants_box-clause-behind g c k less =
    ap (λ r. slice_get r k) c.replace_box.ensures.boxes ∙ get_other (boxes_in c.args.kit.now) c.args.at k c.pop-plugged.result (λ e. omega (arith, less, e))

pub returns-else-wants_box-clause-boxes : goal.returns-else-wants_box-clause-boxes
returns-else-wants_box-clause-boxes g c = boxes_plain c.args.at c.args.kit.now c.requires.stands c.args.boxes.now.items

pub returns-else-wants_box-clause-stands : goal.returns-else-wants_box-clause-stands
returns-else-wants_box-clause-stands g c = stands_plain c.args.at c.args.kit.now c.requires.stands (sym c.wants_box.ensures ∙ c.if-wants_box.false)
