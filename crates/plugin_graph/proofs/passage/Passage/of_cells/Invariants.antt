use Rattle.std.proofs.Common.{◌≡◌, length}
use Rattle.std.specs.Vec.Iter.{into_iter_len}
use Rattle.event_flow.specs.Marks.{marks}
use Rattle.plugin_graph.specs.KitParts.{contents_in}
use Rattle.plugin_graph.specs.Kits.{table_of}
use Rattle.plugin_graph.specs.Passages.{passage_of, with_marks}
use Rattle.plugin_graph.proofs.passage.Passage.of_cells.Given as goal

abbrev pub invariant-loop-cell : goal.invariant-loop-cell
invariant-loop-cell g l = record {
  so_far : with_marks l.passage (marks (table_of (contents_in l.parts)) l.cell-iterator.rest.items) ≡ passage_of (marks (table_of (contents_in l.parts)) l.fn.cells);
  counted : into_iter_len l.cell-iterator ≡ length l.cell-iterator.rest.items;
}
