use Rattle.plugin_graph.specs.Graphs.{contents_of}
use Rattle.plugin_graph.specs.Walks.{IsKitOf}
use Rattle.filter_tests.proofs.walks.add_walks.Given as goal

abbrev pub invariant-loop-event : goal.invariant-loop-event
invariant-loop-event l = IsKitOf l.config (contents_of l.kit)
