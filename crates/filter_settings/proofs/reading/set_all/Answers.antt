use Rattle.std.proofs.Common.{sym, ap, ◌∙◌, arith}
use Rattle.filter_settings.proofs.Setting.{set_more}
use Rattle.filter_settings.proofs.reading.set_all.Goals as goal

pub loop-entry-preserved : goal.loop-entry-preserved
loop-entry-preserved g c =
    let l = c.loop-entry in
    let set = g.F.SetByName.setting in
    let value = c.entry-item.result.1 in
    set_more set c.args.entries.now l.entry-index c.entry-item.result l.filter c.set.new.self c.args.start (omega (arith, c.loop-entry-test.true)) c.entry-item.is l.invariant
    (sym (ap (λ k. set k value l.filter) c.as_str.ensures) ∙ c.in_ok-set.ensures)
