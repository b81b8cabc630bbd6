use Rattle.std.proofs.Common.{◌≤◌, length, sym, ap, ◌∙◌, arith}
use Rattle.plugin_graph.specs.Graphs.{contents_of}
use Rattle.line_jobs.proofs.OnceMore.{all_closed}
use Rattle.line_jobs.proofs.closing.close_kit.Goals as goal

pub returns-clause-closed : goal.returns-clause-closed
returns-clause-closed g c =
    let l = c.loop-at in
    let past : length (contents_of l.kit).filters ≤ l.at =
    omega (arith, c.loop-at-test.false, c.filters-at-end.ensures, ap (λ k. length k.filters) l.invariant.2) in
    sym (all_closed g.F.Close.closes l.kit l.at past) ∙ l.invariant.1
