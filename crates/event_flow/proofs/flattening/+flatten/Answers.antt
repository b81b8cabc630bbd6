use Rattle.std.proofs.Common.{map}
use Rattle.event_flow.specs.Parts.{parts_of, branch, arm_of}
use Rattle.event_flow.proofs.Layings.{laid_next, laid_end, arms_next, arms_end, laid_plugin, laid_branch}
use Rattle.event_flow.proofs.flattening.+flatten.Goals as goal

pub flatten-loop-statement-preserved : goal.flatten-loop-statement-preserved
flatten-loop-statement-preserved t c =
    let j = c.in_ok-laid.ensures in
    laid_next (parts_of c.args.statements.now) c.args.statements.now c.loop-statement.statement-index c.statement-item.result c.args.plugin c.args.condition c.loop-statement.laid.plugin c.loop-statement.laid.condition c.in_ok-next.next.plugin c.in_ok-next.next.condition c.in_ok-laid.laid.plugin c.in_ok-laid.laid.condition c.loop-statement.laid.steps c.in_ok-next.next.steps c.in_ok-laid.laid.steps c.loop-statement-test.true c.statement-item.is c.loop-statement.invariant c.in_ok-next.ensures j.0 j.1 j.2

pub flatten-returns : goal.flatten-returns
flatten-returns t c = laid_end (parts_of c.args.statements.now) c.args.statements.now c.loop-statement.statement-index c.args.plugin c.args.condition c.loop-statement.laid.plugin c.loop-statement.laid.condition c.loop-statement.laid.steps c.loop-statement-test.false c.loop-statement.invariant

pub flatten_arms-loop-arm-preserved : goal.flatten_arms-loop-arm-preserved
flatten_arms-loop-arm-preserved t c =
    arms_next (branch (map arm_of c.args.arms.now)) c.args.arms.now c.loop-arm.arm-index c.arm-item.result c.as_slice.result.now c.args.plugin c.args.condition c.loop-arm.next_plugin c.loop-arm.next_condition c.in_ok-block.block.plugin c.in_ok-block.block.condition c.in_ok-inner.inner c.loop-arm.blocks c.push.new.self (record { condition = c.number_of-number.result; steps = c.in_ok-block.block.steps }) c.loop-arm-test.true c.arm-item.is c.as_slice.ensures c.loop-arm.invariant c.number_of-number.ensures c.in_ok-inner.ensures c.in_ok-block.ensures c.in_ok-push.ensures.ok

pub flatten_arms-returns : goal.flatten_arms-returns
flatten_arms-returns t c = arms_end (branch (map arm_of c.args.arms.now)) c.args.arms.now c.loop-arm.arm-index c.args.plugin c.args.condition c.loop-arm.next_plugin c.loop-arm.next_condition c.loop-arm.blocks c.in_ok-assemble.field-0 c.loop-arm-test.false c.in_ok-assemble.ensures c.loop-arm.invariant

pub flatten_statement-returns-in-Plugin : goal.flatten_statement-returns-in-Plugin
flatten_statement-returns-in-Plugin t c = laid_plugin c.flatten_plugin.result c.args.statement.now c.in-Plugin.field-0 c.args.plugin c.args.condition c.in-Plugin.is c.flatten_plugin.ensures

pub flatten_statement-returns-in-Branch : goal.flatten_statement-returns-in-Branch
flatten_statement-returns-in-Branch t c = laid_branch c.flatten_arms.result c.args.statement.now c.in-Branch.arms c.as_slice.result.now c.args.plugin c.args.condition c.in-Branch.is c.as_slice.ensures c.flatten_arms.ensures
