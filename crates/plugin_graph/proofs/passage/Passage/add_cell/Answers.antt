use Rattle.std.proofs.Common.{rules}
use Rattle.plugin_graph.specs.KitParts.{contents_in}
use Rattle.plugin_graph.specs.Kits.{table_of}
use Rattle.plugin_graph.proofs.Coming.{at_added}
use Rattle.plugin_graph.proofs.passage.Passage.add_cell.Goals as goal

pub returns-in-At : goal.returns-in-At
returns-in-At g c =
    at_added (table_of (contents_in c.args.parts.now)) c.send.result c.args.self.now c.args.cell c.in-At.field-0 c.in-At.event c.in-At.targets c.as_slice.result.now c.send.new.to
    c.in-At.is (search rules) c.send.ensures
