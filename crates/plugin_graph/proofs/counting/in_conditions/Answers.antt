use Rattle.std.proofs.Common.{arith}
use Rattle.built_plugins.specs.Conditions.{condition_patterns}
use Rattle.built_plugins.proofs.Sums.{sum_more}
use Rattle.plugin_graph.proofs.counting.in_conditions.Goals as goal

pub loop-condition-preserved : goal.loop-condition-preserved
loop-condition-preserved c =
    let l = c.loop-condition in
    sum_more condition_patterns c.args.conditions.now l.condition-index l.count l.invariant c.condition-item.result c.count_patterns.result c.in_ok-count.count
    (omega (arith, c.loop-condition-test.true)) c.condition-item.is c.count_patterns.ensures c.in_ok-count.ensures
