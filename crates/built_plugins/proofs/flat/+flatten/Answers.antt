use Rattle.std.proofs.Common.{length, arith, ap, refl}
use Rattle.built_plugins.proofs.Flattening.{next_arm, is_plugin, is_branch}
use Rattle.built_plugins.proofs.flat.+flatten.Goals as goal

pub add_arms-loop-arm-preserved : goal.add_arms-loop-arm-preserved
add_arms-loop-arm-preserved t c =
    let next = c.in-Some.ensures.steps in
    record {
      so_far = next_arm c.args.to.now c.loop-arm.to c.args.arms c.loop-arm.arm-iterator.rest.items c.loop-arm.invariant.so_far c.add_condition.new.to c.add_statements.new.to c.next.new.self.rest.items c.in-Some.arm next.0 c.in_ok-add_condition.ensures c.in_ok-add_statements.ensures;
      counted = omega (arith, c.loop-arm.invariant.counted, next.1, ap length next.0);
    }

pub add_statement-returns-in-Plugin : goal.add_statement-returns-in-Plugin
add_statement-returns-in-Plugin t c = is_plugin c.push.result c.args.to.now (record { plugins = c.push.new.self; conditions = c.args.to.now.conditions }) c.args.statement c.in-Plugin.plugin c.in-Plugin.is c.push.ensures.ok refl

pub add_statement-returns-in-Branch : goal.add_statement-returns-in-Branch
add_statement-returns-in-Branch t c = is_branch c.add_arms.result c.args.to.now c.add_arms.new.to c.args.statement c.in-Branch.arms c.in-Branch.is c.add_arms.ensures
