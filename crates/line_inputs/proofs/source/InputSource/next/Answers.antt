use Rattle.std.proofs.Common.{◌≡◌, ◌++◌, [], IfNone, IfOk, sym, subst}
use Rattle.std.specs.Option.{option_to_list}
use Rattle.line_inputs.specs.Generating.{events_held as generated_events}
use Rattle.line_inputs.specs.Sources.{events_held, tcp_events}
use Rattle.line_inputs.proofs.Giving.{tcp_next}
use Rattle.line_inputs.proofs.Holding.{generator_gave, generator_none}
use Rattle.line_inputs.proofs.source.InputSource.next.Goals as goal

pub returns-in-Generated-clause-events : goal.returns-in-Generated-clause-events
returns-in-Generated-clause-events c =
    let n = c.next-in-Generated in
    subst (λ o. IfOk n.result (λ event. events_held o ≡ option_to_list event ++ generated_events n.new.self)) (sym c.in-Generated.is)
    (generator_gave c.in-Generated.input n.new.self n.result n.ensures.event n.ensures.passed)

pub returns-in-Generated-clause-none : goal.returns-in-Generated-clause-none
returns-in-Generated-clause-none c =
    let n = c.next-in-Generated in
    subst (λ o. IfOk n.result (λ event. IfNone event (events_held o ≡ []))) (sym c.in-Generated.is) (generator_none c.in-Generated.input n.result n.ensures.event)

pub returns-in-Connections-clause-events : goal.returns-in-Connections-clause-events
returns-in-Connections-clause-events c =
    let n = c.next-in-Connections in
    subst (λ o. IfOk n.result (λ event. events_held o ≡ option_to_list event ++ tcp_events n.new.self)) (sym c.in-Connections.is) (tcp_next c.in-Connections.input n.new.self n.result n.ensures)
