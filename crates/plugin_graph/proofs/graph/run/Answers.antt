use Rattle.plugin_graph.specs.Graphs.{steps_in, contents_of, boxes_in}
use Rattle.plugin_graph.specs.KitParts.{contents_in}
use Rattle.plugin_graph.specs.Kits.{table_of, MayAt}
use Rattle.built_plugins.specs.Makes.{makes}
use Rattle.plugin_graph.proofs.Coming.{run_passed}
use Rattle.plugin_graph.proofs.graph.run.Goals as goal

pub returns-clause-passage : goal.returns-clause-passage
returns-clause-passage g c =
    let kit = c.args.kit.now in
    run_passed c.of_cells.result (MayAt g.X.FilterCall.may (boxes_in kit)) makes (table_of (contents_of kit)) (table_of (contents_in c.run.new.kit)) c.in_ok-cells.cells c.args.events (steps_in c.args.graph.now) c.as_slice.result.now
    c.as_slice.ensures c.in_ok-cells.ensures.table c.of_cells.ensures c.in_ok-cells.ensures.derived
