use Rattle.std.proofs.Common.{◌≡◌, ◌+◌, ◌≤◌, ◌++◌, [], length, take, drop, arith, ap, sym, ◌∙◌, refl, rules}
use Rattle.std.proofs.lemmas.Grind.{common_steps}
use Rattle.std.proofs.lemmas.List.{length-set}
use Rattle.event_flow.proofs.Batches.{same_first, same_then}
use Rattle.event_flow.proofs.Cells.{through_first, through_at, through_kept, through_end, through_rest}
use Rattle.event_flow.proofs.running.one_step.Goals as goal

pub loop-index-init : goal.loop-index-init
loop-index-init g c = record {
  stands = c.requires;
  same = same_first (g.K.Plugins.table c.args.kit.now) (g.K.Plugins.may c.args.kit.now);
  boxes = refl;
  through = through_first (g.K.Plugins.may c.args.kit.now) (g.K.Plugins.table c.args.kit.now) c.args.step c.args.cells [] [] refl;
  none = c.new-others.ensures;
  counted = c.len-index-end.ensures;
}

pub loop-index-preserved : goal.loop-index-preserved
loop-index-preserved g c =
    let kit = g.K.Plugins in
    let e = c.in_ok-step_at.ensures in
    let i = c.loop-index.invariant in
    let none : c.step_at.new.others ≡ [] = search rules in
    record {
      stands = e.stands;
      same = same_then (kit.table c.args.kit.now) (kit.table c.loop-index.kit) (kit.table c.step_at.new.kit) (kit.may c.args.kit.now) (kit.may c.loop-index.kit) (kit.may c.step_at.new.kit) i.same e.table e.may;
      boxes = e.boxes ∙ i.boxes;
      through = through_kept (kit.may c.args.kit.now) (kit.table c.args.kit.now) c.args.step c.args.cells (drop (c.loop-index.index + 1) c.step_at.new.cells) [] (take (c.loop-index.index + 1) c.step_at.new.cells) c.step_at.new.others none
          (through_at (kit.may c.args.kit.now) (kit.may c.loop-index.kit) (kit.table c.args.kit.now) (kit.table c.loop-index.kit) c.args.step c.args.cells c.loop-index.cells c.step_at.new.cells c.step_at.new.others [] c.loop-index.index i.same e.ok i.through);
      none = none;
      counted = i.counted ∙ sym (ap length e.ok.whole ∙ length-set _ _ _);
    }

pub returns-then-not-is_empty-clause-ok : goal.returns-then-not-is_empty-clause-ok
returns-then-not-is_empty-clause-ok g c =
    let kit = g.K.Plugins in
    let e = c.in_ok-step_at.ensures in
    let i = c.loop-index.invariant in
    through_rest c.step_rest.result (kit.may c.args.kit.now) (kit.may c.step_at.new.kit) (kit.table c.args.kit.now) (kit.table c.step_at.new.kit) c.args.step c.args.cells (drop (c.loop-index.index + 1) c.step_at.new.cells) (take (c.loop-index.index + 1) c.step_at.new.cells ++ c.step_at.new.others)
    (same_then (kit.table c.args.kit.now) (kit.table c.loop-index.kit) (kit.table c.step_at.new.kit) (kit.may c.args.kit.now) (kit.may c.loop-index.kit) (kit.may c.step_at.new.kit) i.same e.table e.may)
    (through_at (kit.may c.args.kit.now) (kit.may c.loop-index.kit) (kit.table c.args.kit.now) (kit.table c.loop-index.kit) c.args.step c.args.cells c.loop-index.cells c.step_at.new.cells c.step_at.new.others [] c.loop-index.index i.same e.ok i.through)
    c.step_rest.ensures.ok

pub returns-clause-ok : goal.returns-clause-ok
returns-clause-ok g c =
    let end : length c.loop-index.cells ≤ c.loop-index.index = omega (arith, c.loop-index.invariant.counted) in
    let left : drop c.loop-index.index c.loop-index.cells ≡ [] = grind (arith, common_steps) in
    let all : take c.loop-index.index c.loop-index.cells ≡ c.loop-index.cells = grind (arith, common_steps) in
    through_end (g.K.Plugins.may c.args.kit.now) (g.K.Plugins.table c.args.kit.now) c.args.step c.args.cells (drop c.loop-index.index c.loop-index.cells) (take c.loop-index.index c.loop-index.cells) c.loop-index.cells left all c.loop-index.invariant.through
