use Rattle.std.proofs.Common.{length, ap, arith}
use Rattle.plugin_graph.specs.KitParts.{contents_in}
use Rattle.plugin_graph.specs.Kits.{table_of}
use Rattle.plugin_graph.proofs.Coming.{next_cell}
use Rattle.plugin_graph.proofs.passage.Passage.of_cells.Goals as goal

pub loop-cell-preserved : goal.loop-cell-preserved
loop-cell-preserved g c =
    let l = c.loop-cell in
    let next = c.in-Some.ensures.steps in
    record {
      so_far = next_cell (table_of (contents_in c.args.parts.now)) c.args.cells l.cell-iterator.rest.items l.passage l.invariant.so_far c.next.new.self.rest.items c.in-Some.cell c.add_cell.new.self next.0 c.in_ok-add_cell.ensures;
      counted = omega (arith, l.invariant.counted, next.1, ap length next.0);
    }
