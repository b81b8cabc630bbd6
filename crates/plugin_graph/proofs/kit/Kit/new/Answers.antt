use Rattle.plugin_graph.specs.KitParts.{contents_in}
use Rattle.plugin_graph.proofs.Tables.{loads, table_is}
use Rattle.plugin_graph.proofs.kit.Kit.new.Goals as goal

pub returns-clause-loaded : goal.returns-clause-loaded
returns-clause-loaded g c = loads c.args.draws.now c.args.config.now (contents_in c.in_ok-parts.parts) c.in_ok-parts.ensures.ok

pub returns-clause-table : goal.returns-clause-table
returns-clause-table g c = table_is c.args.draws.now c.args.config.now (contents_in c.in_ok-parts.parts) c.in_ok-parts.ensures.ok
