use Rattle.std.proofs.Common.{arith}
use Rattle.built_plugins.proofs.Sums.{sum_more}
use Rattle.plugin_graph.proofs.counting.in_filters.Goals as goal

pub loop-filter-preserved : goal.loop-filter-preserved
loop-filter-preserved g c =
    let l = c.loop-filter in
    sum_more _ c.args.filters.now l.filter-index l.count l.invariant c.filter-item.result c.in_ok-count_patterns.field-0 c.in_ok-count.count
    (omega (arith, c.loop-filter-test.true)) c.filter-item.is c.in_ok-count_patterns.ensures c.in_ok-count.ensures
