use Rattle.std.proofs.Common.{sym, ◌∙◌, subst}
use Rattle.line_core.specs.Openings.{AreShort}
use Rattle.logstash_top.proofs.TopLemmas.{folder_ends, opened_serves}
use Rattle.logstash_top.proofs.top.run_line.Goals as goal

pub open_on-requires-clause-path : goal.open_on-requires-clause-path
open_on-requires-clause-path g c = folder_ends c.args.settings.now c.as_str.result.now (c.as_str.ensures ∙ c.in_ok-folder.ensures)

pub open_on-requires-clause-short : goal.open_on-requires-clause-short
open_on-requires-clause-short g c = subst AreShort (sym c.requires.plan.inputs) (c.planned_inputs_have_short_ids.ensures c.args.plan.config.inputs c.requires.few)

pub serve-served-requires : goal.serve-served-requires
serve-served-requires g c =
    opened_serves g.S.Store g.L.Links g.X.OutputCall.number c.in_ok-line.line (g.W.Shop.out c.args.shop.now) _ c.requires.idle c.in_ok-line.ensures.ready c.in_ok-line.ensures.can c.in_ok-line.ensures.none c.in_ok-line.ensures.connections
