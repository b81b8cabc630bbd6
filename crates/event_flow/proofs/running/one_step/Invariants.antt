use Rattle.std.proofs.Common.{◌≡◌, [], length, take, drop}
use Rattle.event_flow.proofs.Batches.{Same}
use Rattle.event_flow.proofs.Cells.{Through}
use Rattle.event_flow.proofs.running.one_step.Given as goal

abbrev pub invariant-loop-index : goal.invariant-loop-index
invariant-loop-index g l = record {
  stands : g.K.Plugins.stands l.kit;
  same : Same (g.K.Plugins.table l.fn.kit) (g.K.Plugins.table l.kit) (g.K.Plugins.may l.fn.kit) (g.K.Plugins.may l.kit);
  boxes : g.K.Plugins.boxes l.kit ≡ g.K.Plugins.boxes l.fn.kit;
  through : Through (g.K.Plugins.may l.fn.kit) (g.K.Plugins.table l.fn.kit) l.fn.step l.fn.cells (drop l.index l.cells) [] (take l.index l.cells);
  none : l.others ≡ [];
  counted : l.index-end ≡ length l.cells;
}
