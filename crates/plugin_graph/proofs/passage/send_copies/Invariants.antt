use Rattle.std.proofs.Common.{◌≡◌, ◌++◌, drop}
use Rattle.event_flow.specs.Marks.{sent_to}
use Rattle.plugin_graph.specs.KitParts.{contents_in}
use Rattle.plugin_graph.specs.Kits.{table_of}
use Rattle.plugin_graph.specs.Passages.{sent_of}
use Rattle.plugin_graph.proofs.passage.send_copies.Given as goal

abbrev pub invariant-loop-target : goal.invariant-loop-target
invariant-loop-target g l = l.to ++ sent_of (sent_to (table_of (contents_in l.parts)) (drop l.target-index l.targets) l.event) ≡ l.fn.to ++ sent_of (sent_to (table_of (contents_in l.parts)) l.targets l.event)
