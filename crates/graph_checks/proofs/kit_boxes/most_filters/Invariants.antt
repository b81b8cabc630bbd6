use Rattle.std.proofs.Common.{◌≡◌, map, drop}
use Rattle.plugin_graph.specs.Graphs.{contents_of}
use Rattle.graph_checks.specs.Plans.{most, width}
use Rattle.graph_checks.proofs.kit_boxes.most_filters.Given as goal

abbrev pub invariant-loop-kit : goal.invariant-loop-kit
invariant-loop-kit g l = most l.most (map contents_of (drop l.kit-index l.kits)) ≡ width (map contents_of l.kits)
