use Rattle.std.proofs.Common.{false, IfOk, subst, sym}
use Rattle.plugin_graph.specs.Meetings.{Answered}
use Rattle.plugin_graph.proofs.Encounters.{Meets_it, built_meets, boxed_meets}
use Rattle.plugin_graph.proofs.kit_filter.KitFilter.meet.Goals as goal

pub returns-in-Built-clause-ok : goal.returns-in-Built-clause-ok
returns-in-Built-clause-ok g c =
    let may = g.X.FilterCall.may in
    let x = c.args.self.now in
    subst (λ f. IfOk c.meet.result (Meets_it may x.plugged c.args.event.now c.args.targets.now c.meet.new.event c.meet.new.targets c.args.to.now c.meet.new.to f)) (sym c.in-Built.is)
    (built_meets may x.plugged c.args.event.now c.args.targets.now c.meet.new.event c.meet.new.targets c.args.to.now c.meet.new.to c.meet.result c.in-Built.filter c.meet.ensures.ok)

pub returns-in_ok-ask-in-Some-clause-ok : goal.returns-in_ok-ask-in-Some-clause-ok
returns-in_ok-ask-in-Some-clause-ok g c =
    let may = g.X.FilterCall.may in
    let x = c.args.self.now in
    subst (λ f. Meets_it may x.plugged c.args.event.now c.args.targets.now c.args.event.now c.replace-targets.new.dest c.args.to.now c.ask.new.to f false) (sym c.in-Boxed.is)
    (boxed_meets may x.plugged c.args.event.now c.args.targets.now c.args.event.now c.replace-targets.new.dest c.args.to.now c.ask.new.to c.in-Boxed.filter c.in-Some.plugged c.in-Some.is
    (subst (λ ts. Answered (may c.in-Some.plugged c.args.event.now) c.in-Boxed.filter c.args.event.now ts c.args.to.now c.ask.new.to) c.replace-targets.ensures.value c.in_ok-ask-in-Some.ensures))
