use Rattle.std.proofs.Common.{◌≡◌, map}
use Rattle.plugin_graph.specs.Graphs.{built_in, contents_of}
use Rattle.line_jobs.specs.Closings.{all_once_more, told_in}
use Rattle.line_jobs.proofs.ClosedKits.{more_behind}
use Rattle.line_jobs.proofs.kits.close_each.Given as goal

abbrev pub invariant-loop-kit : goal.invariant-loop-kit
invariant-loop-kit g l = record {
  numbers : told_in g.F.Close.number l.kits ≡ told_in g.F.Close.number l.fn.kits;
  closed : more_behind l.kit-index (told_in g.F.Close.closes l.kits) ≡ all_once_more (told_in g.F.Close.closes l.fn.kits);
  contents : map contents_of l.kits ≡ map contents_of l.fn.kits;
  built : map built_in l.kits ≡ map built_in l.fn.kits;
}
