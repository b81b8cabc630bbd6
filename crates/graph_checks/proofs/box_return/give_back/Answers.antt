use Rattle.std.proofs.Common.{sym, ap, subst, ◌∙◌}
use Rattle.graph_checks.specs.Drawns.{boxes_of}
use Rattle.graph_checks.specs.Linked.{LinksMayGoBack, links_back}
use Rattle.graph_checks.specs.Plans.{boxes_of_kits}
use Rattle.graph_checks.proofs.Restoring.{may_in}
use Rattle.graph_checks.proofs.box_return.give_back.Goals as goal

pub give_back_kits-requires : goal.give_back_kits-requires
give_back_kits-requires g c =
    let e = c.give_back_outputs.ensures in
    may_in (boxes_of g.B.BoxPool.filter_number (boxes_of_kits c.args.plan.kits.items)) (sym e.given) (sym e.outputs) (sym e.filters) c.requires.boxes.of_filters

pub give_back_links-requires : goal.give_back_links-requires
give_back_links-requires g c = subst (LinksMayGoBack c.args.plan.links.items) (sym (c.give_back_kits.ensures.links ∙ c.give_back_outputs.ensures.links)) c.requires.links

pub returns-clause-links : goal.returns-clause-links
returns-clause-links g c = c.give_back_links.ensures.links ∙ ap (links_back c.args.plan.links.items) (c.give_back_kits.ensures.links ∙ c.give_back_outputs.ensures.links)
