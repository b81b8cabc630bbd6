use Rattle.plugin_graph.proofs.Encounters.{more_events}
use Rattle.plugin_graph.proofs.kit_filter.put.Goals as goal

pub returns : goal.returns
returns c table = more_events table c.args.to.now c.push_next.new.to c.args.events c.in_ok-push_next.ensures
