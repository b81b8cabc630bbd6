use Rattle.plugin_graph.proofs.Rereading.{met_anew}
use Rattle.plugin_graph.proofs.walker.apply_from_text.Goals as goal

pub returns : goal.returns
returns c = met_anew c.meet.result c.args.plugins.now c.args.at c.in_ok-filter.filter c.args.event.now c.args.targets.now c.meet.new.event c.meet.new.targets c.args.to.now c.meet.new.to c.in_ok-filter.ensures c.meet.ensures.ok
