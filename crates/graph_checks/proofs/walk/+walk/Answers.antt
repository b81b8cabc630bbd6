use Rattle.std.proofs.Common.{◌≡◌, arith, ap, sym, subst, ◌∙◌, Ok}
use Rattle.graph_checks.specs.Answers.{Refuses}
use Rattle.graph_checks.specs.Plugins.{plugin_checked, points_checked}
use Rattle.graph_checks.specs.Points.{points_in, points_in_arm, points_of, points_of_arms}
use Rattle.graph_checks.proofs.Going.{leaves_as}
use Rattle.graph_checks.proofs.Handing.{leaves_handed}
use Rattle.graph_checks.proofs.Pointing.{plugin_point, branch_points}
use Rattle.graph_checks.proofs.Walking.{walk_goes, walk_fails, walk_ends, arm_goes, condition_fails, block_fails}
use Rattle.graph_checks.proofs.walk.+walk.Goals as goal

pub check_statements-returns-in_err-check_statement-clause-walk : goal.check_statements-returns-in_err-check_statement-clause-walk
check_statements-returns-in_err-check_statement-clause-walk g t c =
    let l = c.loop-statement in
    let e = c.in_err-check_statement.field-0.0 in
    leaves_handed c.from_residual.result e _ _ c.from_residual.ensures.1
    (walk_fails g.B.Boxes.stand g.B.Boxes.links c.args.kind points_in c.args.statements.now l.statement-index c.statement-item.result c.args.boxes.now l.boxes c.args.walk.now l.walk e c.loop-statement-test.true c.statement-item.is l.invariant c.in_err-check_statement.ensures.walk)

pub check_statements-loop-statement-preserved : goal.check_statements-loop-statement-preserved
check_statements-loop-statement-preserved g t c =
    let l = c.loop-statement in
    walk_goes g.B.Boxes.stand g.B.Boxes.links c.args.kind points_in c.args.statements.now l.statement-index c.statement-item.result c.args.boxes.now l.boxes c.check_statement.new.boxes c.args.walk.now l.walk c.check_statement.new.walk
    c.loop-statement-test.true c.statement-item.is l.invariant c.in_ok-check_statement.ensures.walk c.in_ok-check_statement.ensures.keeps

pub check_statements-returns-clause-walk : goal.check_statements-returns-clause-walk
check_statements-returns-clause-walk g t c =
    let l = c.loop-statement in
    walk_ends g.B.Boxes.stand g.B.Boxes.links c.args.kind points_in c.args.statements.now l.statement-index c.args.boxes.now l.boxes c.args.walk.now l.walk (omega (arith, c.loop-statement-test.false)) l.invariant

pub check_statement-returns-in-Plugin-clause-walk : goal.check_statement-returns-in-Plugin-clause-walk
check_statement-returns-in-Plugin-clause-walk g t c =
    let stand = g.B.Boxes.stand c.args.boxes.now c.args.kind in
    leaves_as c.check_plugin.result (plugin_checked c.args.kind stand c.in-Plugin.plugin c.args.walk.now) (points_checked c.args.kind stand (points_in c.args.statement.now) c.args.walk.now) c.check_plugin.new.self
    (ap (λ s. points_checked c.args.kind stand (points_in s) c.args.walk.now) c.in-Plugin.is ∙ plugin_point c.args.kind stand c.in-Plugin.plugin c.args.walk.now) c.check_plugin.ensures.walk

pub check_statement-returns-in-Branch-clause-walk : goal.check_statement-returns-in-Branch-clause-walk
check_statement-returns-in-Branch-clause-walk g t c =
    let stand = g.B.Boxes.stand c.args.boxes.now c.args.kind in
    leaves_as c.check_arms.result (points_checked c.args.kind stand (points_of_arms c.as_slice.result.now) c.args.walk.now) (points_checked c.args.kind stand (points_in c.args.statement.now) c.args.walk.now) c.check_arms.new.walk
    (ap (λ s. points_checked c.args.kind stand (points_in s) c.args.walk.now) c.in-Branch.is ∙ branch_points c.args.kind stand c.in-Branch.arms c.args.walk.now ∙ ap (λ arms. points_checked c.args.kind stand (points_of_arms arms) c.args.walk.now) (sym c.as_slice.ensures)) c.check_arms.ensures.walk

pub check_arms-returns-in_err-check_condition-clause-walk : goal.check_arms-returns-in_err-check_condition-clause-walk
check_arms-returns-in_err-check_condition-clause-walk g t c =
    let l = c.loop-arm in
    let e = c.in_err-check_condition.field-0.0 in
    leaves_handed c.from_residual.result e _ _ c.from_residual.ensures.1
    (walk_fails g.B.Boxes.stand g.B.Boxes.links c.args.kind points_in_arm c.args.arms.now l.arm-index c.arm-item.result c.args.boxes.now l.boxes c.args.walk.now l.walk e c.loop-arm-test.true c.arm-item.is l.invariant
    (condition_fails c.args.kind (g.B.Boxes.stand l.boxes c.args.kind) c.arm-item.result l.walk e c.in_err-check_condition.ensures))

pub check_arms-returns-in_err-check_statements-clause-walk : goal.check_arms-returns-in_err-check_statements-clause-walk
check_arms-returns-in_err-check_statements-clause-walk g t c =
    let l = c.loop-arm in
    let e = c.in_err-check_statements.field-0.0 in
    let stand = g.B.Boxes.stand l.boxes c.args.kind in
    let mid = c.check_condition.new.self in
    leaves_handed c.from_residual-in_err-check_statements.result e _ _ c.from_residual-in_err-check_statements.ensures.1
    (walk_fails g.B.Boxes.stand g.B.Boxes.links c.args.kind points_in_arm c.args.arms.now l.arm-index c.arm-item.result c.args.boxes.now l.boxes c.args.walk.now l.walk e c.loop-arm-test.true c.arm-item.is l.invariant
    (block_fails c.args.kind stand c.arm-item.result l.walk mid e c.in_ok-check_condition.ensures
    (subst (λ b. Refuses e (points_checked c.args.kind stand (points_of b) mid)) c.as_slice.ensures c.in_err-check_statements.ensures.walk)))

pub check_arms-loop-arm-preserved : goal.check_arms-loop-arm-preserved
check_arms-loop-arm-preserved g t c =
    let l = c.loop-arm in
    let stand = g.B.Boxes.stand l.boxes c.args.kind in
    let mid = c.check_condition.new.self in
    let new = c.check_statements.new.walk in
    walk_goes g.B.Boxes.stand g.B.Boxes.links c.args.kind points_in_arm c.args.arms.now l.arm-index c.arm-item.result c.args.boxes.now l.boxes c.check_statements.new.boxes c.args.walk.now l.walk new
    c.loop-arm-test.true c.arm-item.is l.invariant
    (arm_goes c.args.kind stand c.arm-item.result l.walk mid new c.in_ok-check_condition.ensures
    (subst (λ b. points_checked c.args.kind stand (points_of b) mid ≡ Ok new) c.as_slice.ensures c.in_ok-check_statements.ensures.walk))
    c.in_ok-check_statements.ensures.keeps

pub check_arms-returns-clause-walk : goal.check_arms-returns-clause-walk
check_arms-returns-clause-walk g t c =
    let l = c.loop-arm in
    walk_ends g.B.Boxes.stand g.B.Boxes.links c.args.kind points_in_arm c.args.arms.now l.arm-index c.args.boxes.now l.boxes c.args.walk.now l.walk (omega (arith, c.loop-arm-test.false)) l.invariant
