use Rattle.std.proofs.Common.{◌≡◌, ◌++◌, ◌∙◌, ap, subst}
use Rattle.event_flow.specs.Marks.{dids, marks, sent_to}
use Rattle.event_flow.specs.Steps.{Table}
use Rattle.built_plugins.specs.Makes.{applied}
use Rattle.plugin_graph.proofs.Encounters.{built_met}
use Rattle.plugin_graph.proofs.kit_filter.meet.Goals as goal

pub returns-clause-ok : goal.returns-clause-ok
returns-clause-ok c =
    let e = c.args.event.now in
    let es = c.in_ok-events-2.field-0.events in
    let made : es ≡ (applied c.args.filter.now e).events = ap (λ a. a.events) c.in_ok-events-2.ensures.applied ∙ ap (λ y. (applied c.args.filter.now y).events) c.taken-2.ensures in
    let left : (table : Table) → marks table c.push_consumed.new.to ≡ marks table c.args.to.now ++ dids (sent_to table c.args.targets.now e)
    = subst (λ ts. (table : Table) → marks table c.push_consumed.new.to ≡ marks table c.args.to.now ++ dids (sent_to table ts e)) c.replace.ensures.value c.in_ok-push_consumed.ensures in
    built_met c.args.to.now e c.args.targets.now c.push_consumed.new.to left c.args.filter.now es c.push_next.new.to e c.args.targets.now made c.in_ok-push_next.ensures
