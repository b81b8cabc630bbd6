use Rattle.plugin_graph.proofs.Encounters.{boxed_met}
use Rattle.plugin_graph.proofs.kit_filter.ask.Goals as goal

pub returns : goal.returns
returns g c = boxed_met c.args.to.now c.args.event.now c.args.targets c.push_consumed.new.to c.in_ok-push_consumed.ensures c.push_next.result (g.X.FilterCall.may c.args.plugged.now c.args.event.now) c.args.filter.now c.in_ok-verdict.verdict c.in_ok-events.events c.push.new.self c.push_next.new.to c.in_ok-verdict.ensures c.in_ok-events.ensures c.in_ok-push.ensures.ok c.push_next.ensures
