use Rattle.std.proofs.Common.{◌≡◌}
use Rattle.plugin_graph.specs.Graphs.{boxes_in, built_in, contents_of}
use Rattle.line_jobs.specs.Closings.{each_once_more, once_more_from, told}
use Rattle.line_jobs.proofs.closing.close_kit.Given as goal

abbrev pub invariant-loop-at : goal.invariant-loop-at
invariant-loop-at g l =
    (told g.F.Close.number (boxes_in l.kit) ≡ told g.F.Close.number (boxes_in l.fn.kit))
    × (once_more_from l.at (told g.F.Close.closes (boxes_in l.kit)) ≡ each_once_more (told g.F.Close.closes (boxes_in l.fn.kit)))
    × (contents_of l.kit ≡ contents_of l.fn.kit)
    × (built_in l.kit ≡ built_in l.fn.kit)
