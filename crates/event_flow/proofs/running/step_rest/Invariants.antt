use Rattle.std.proofs.Common.{◌≡◌, ◌++◌, length, take, drop}
use Rattle.std.specs.Vec.Iter.{into_iter_len}
use Rattle.event_flow.specs.Marks.{marks}
use Rattle.event_flow.proofs.Batches.{Same}
use Rattle.event_flow.proofs.Cells.{Through}
use Rattle.event_flow.proofs.running.step_rest.Given as goal

abbrev pub invariant-loop-cell : goal.invariant-loop-cell
invariant-loop-cell g l = record {
  stands : g.K.Plugins.stands l.kit;
  same : Same (g.K.Plugins.table l.fn.kit) (g.K.Plugins.table l.kit) (g.K.Plugins.may l.fn.kit) (g.K.Plugins.may l.kit);
  boxes : g.K.Plugins.boxes l.kit ≡ g.K.Plugins.boxes l.fn.kit;
  through : Through (g.K.Plugins.may l.fn.kit) (g.K.Plugins.table l.fn.kit) l.fn.step (drop l.fn.from l.fn.cells) l.cell-iterator.rest.items
      (marks (g.K.Plugins.table l.fn.kit) (take l.fn.from l.fn.cells ++ l.fn.others)) l.out;
  counted : into_iter_len l.cell-iterator ≡ length l.cell-iterator.rest.items;
}
