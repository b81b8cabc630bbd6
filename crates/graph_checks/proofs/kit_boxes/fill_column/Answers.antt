use Rattle.std.proofs.Common.{◌≡◌, ◌-◌, suc, length, rules, sym, subst, arith}
use Rattle.graph_checks.proofs.Fillings.{SoFar, so_far, so_far_next, x_enough}
use Rattle.graph_checks.proofs.kit_boxes.fill_column.Goals as goal

pub loop-next-init : goal.loop-next-init
loop-next-init g c =
    let old = c.args.kits.now.items in
    let boxes = c.args.boxes.now.items in
    let count : c.len-next.result ≡ length old = search rules in
    subst (λ n. SoFar c.args.at old boxes n old boxes) (sym count) (so_far c.args.at old boxes c.requires.enough)

pub fill-requires-clause-enough : goal.fill-requires-clause-enough
fill-requires-clause-enough g c =
    let old = c.args.kits.now.items in
    let boxes = c.args.boxes.now.items in
    let l = c.loop-next in
    let less : l.next ≡ suc (l.next - 1) = omega (arith, c.loop-next-test.true) in
    x_enough c.args.at old boxes (l.next - 1) l.kits.items l.boxes.items (subst (λ n. SoFar c.args.at old boxes n l.kits.items l.boxes.items) less l.invariant) c.index_mut.result.now c.index_mut.ensures.value

pub loop-next-preserved : goal.loop-next-preserved
loop-next-preserved g c =
    let old = c.args.kits.now.items in
    let boxes = c.args.boxes.now.items in
    let l = c.loop-next in
    let e = c.fill.ensures in
    let less : l.next ≡ suc (l.next - 1) = omega (arith, c.loop-next-test.true) in
    so_far_next c.args.at old boxes (l.next - 1) l.kits.items l.boxes.items (subst (λ n. SoFar c.args.at old boxes n l.kits.items l.boxes.items) less l.invariant) c.index_mut.result.now c.index_mut.ensures.value
    c.fill.new.kit c.fill.new.boxes.items e.stands e.boxes e.behind e.contents e.built
