use Rattle.std.proofs.Common.{length, ap, arith}
use Rattle.plugin_graph.specs.Kits.{no_boxes}
use Rattle.built_plugins.proofs.Sums.{mapped_next}
use Rattle.plugin_graph.proofs.loading.kit_filters.Goals as goal

pub loop-filter-preserved : goal.loop-filter-preserved
loop-filter-preserved g c =
    let l = c.loop-filter in
    let next = c.in-Some.ensures.steps in
    let rest = c.next.new.self.rest.items in
    let added = c.in_ok-push.ensures.ok in
    record {
      so_far = mapped_next _ l.found c.push.new.self _ rest c.args.filters l.filter-iterator.rest.items added next.0 l.invariant.so_far;
      boxes = mapped_next _ l.found c.push.new.self _ (no_boxes rest) (no_boxes c.args.filters) (no_boxes l.filter-iterator.rest.items) added (ap no_boxes next.0) l.invariant.boxes;
      counted = omega (arith, l.invariant.counted, next.1, ap length next.0);
    }
