use Rattle.std.proofs.Common.{◌≡◌, None, Ok, Some, [], sym, ap, subst, ◌∙◌}
use Rattle.in_lines.specs.Settings.{with_settings}
use Rattle.line_inputs.specs.Inputs.{GaveNext, InputView}
use Rattle.line_inputs.specs.Sources.{events_held}
use Rattle.line_inputs.specs.contracts.open_input.OpenInput.{the_view}
use Rattle.line_inputs.proofs.Plain.{handed_changed, handed_plain}
use Rattle.line_inputs.proofs.open_input.OpenInput.hand_on.Goals as goal

pub returns-then-self-clause-gave : goal.returns-then-self-clause-gave
returns-then-self-clause-gave c =
    let v : InputView = the_view c.self.inside in
    subst (λ (o : InputView). GaveNext o (record v { waiting = c.take.new.self }) (Ok c.take.result)) c.self.view_is
    (handed_plain v c.take.result c.take.new.self (c.self.invariant c.if-self.true) c.take.ensures.value c.take.ensures.after
    (subst (λ (o : InputView). o.waiting ≡ None → events_held o.source ≡ []) (sym c.self.view_is) c.requires))

pub returns-clause-gave : goal.returns-clause-gave
returns-clause-gave c =
    let v : InputView = the_view c.self.inside in
    subst (λ (o : InputView). GaveNext o (record v { waiting = None }) (Ok (Some c.in_ok-changed.changed))) c.self.view_is
    (handed_changed v c.in-Some.event c.in_ok-changed.changed c.in-Some.is (c.in_ok-changed.ensures ∙ ap (with_settings c.self.inside.settings) c.in_ok-copy.ensures))
