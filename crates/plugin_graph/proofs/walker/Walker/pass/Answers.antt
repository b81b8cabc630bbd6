use Rattle.std.proofs.Common.{[], ◌∷◌}
use Rattle.plugin_graph.specs.KitParts.{contents_in}
use Rattle.plugin_graph.specs.Kits.{MayAt, boxes_of, table_of}
use Rattle.built_plugins.specs.Makes.{makes}
use Rattle.plugin_graph.proofs.Coming.{run_passed}
use Rattle.plugin_graph.proofs.Rereading.{of_one}
use Rattle.plugin_graph.proofs.walker.Walker.pass.Goals as goal

pub returns-clause-passage : goal.returns-clause-passage
returns-clause-passage g c =
    let parts = c.args.self.now.parts in
    let table = table_of (contents_in parts) in
    let may = MayAt g.X.FilterCall.may (boxes_of parts.filters) in
    let steps = c.in_ok-steps.steps in
    let es = c.in_ok-events.events in
    of_one c.of_cells.result may table es (c.args.event.now ∷ []) steps c.args.config.now c.in_ok-events.ensures c.in_ok-steps.ensures
    (run_passed c.of_cells.result may makes table (table_of (contents_in c.run.new.kit.parts)) c.in_ok-cells.cells es steps c.as_slice.result.now
    c.as_slice.ensures c.in_ok-cells.ensures.table c.of_cells.ensures c.in_ok-cells.ensures.derived)
