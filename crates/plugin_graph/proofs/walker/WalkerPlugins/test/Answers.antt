use Rattle.plugin_graph.specs.KitParts.{contents_in}
use Rattle.plugin_graph.specs.Kits.{table_of}
use Rattle.plugin_graph.proofs.Rereading.{alike_still}
use Rattle.plugin_graph.proofs.walker.WalkerPlugins.test.Goals as goal

pub returns-clause-stands : goal.returns-clause-stands
returns-clause-stands g c =
    let w = c.args.self.now in
    alike_still w.plugins w.plain (table_of (contents_in w.parts)) (table_of (contents_in c.test.new.self)) c.test.ensures.table c.requires
