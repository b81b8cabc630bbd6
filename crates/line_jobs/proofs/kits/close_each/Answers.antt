use Rattle.std.proofs.Common.{◌<◌, length, ◌∙◌, sym, arith}
use Rattle.plugin_graph.specs.Graphs.{boxes_in, built_in, contents_of}
use Rattle.line_jobs.specs.Closings.{told}
use Rattle.line_jobs.proofs.ClosedKits.{all_closed, one_closed, same_told}
use Rattle.line_jobs.proofs.kits.close_each.Goals as goal

pub loop-kit-preserved : goal.loop-kit-preserved
loop-kit-preserved g c =
    let l = c.loop-kit in
    let d = c.kit-item.result in
    let new = c.close_kit.new.kit in
    let e = c.close_kit.ensures in
    let less : l.kit-index < length l.kits = omega (arith, c.loop-kit-test.true, l.auto.kits) in
    record {
      numbers = same_told (λ kit. told g.F.Close.number (boxes_in kit)) l.kits l.kit-index new d less e.numbers ∙ l.invariant.numbers;
      closed = one_closed g.F.Close.closes l.kits l.kit-index new d less e.closed ∙ l.invariant.closed;
      contents = same_told contents_of l.kits l.kit-index new d less e.contents ∙ l.invariant.contents;
      built = same_told built_in l.kits l.kit-index new d less e.built ∙ l.invariant.built;
    }

pub returns-clause-closed : goal.returns-clause-closed
returns-clause-closed g c =
    let l = c.loop-kit in
    sym (all_closed g.F.Close.closes l.kits l.kit-index (omega (arith, c.loop-kit-test.false, l.auto.kits))) ∙ l.invariant.closed
