use Rattle.std.proofs.Common.{◌==◌, sym, ap, arith, ◌∙◌}
use Rattle.std.specs.List.{list_any}
use Rattle.pipeline_bus.specs.Ends.{sending}
use Rattle.line_links.proofs.Sending.{answer_heard, by_refused, no_answer_yet}
use Rattle.line_links.proofs.sender.AddressSender.hear.Goals as goal

pub returns-then-not-hear_next-clause-answer : goal.returns-then-not-hear_next-clause-answer
returns-then-not-hear_next-clause-answer c =
    let s = c.hear_next.new.self in
    sym (no_answer_yet c.args.number (sending s.end).heard s.in_turn (omega (arith, s.heard_is, c.if-not-hear_next.ensures.heard, c.loop-self-test.true)))

pub returns-then-contains-clause-answer : goal.returns-then-contains-clause-answer
returns-then-contains-clause-answer c =
    let s = c.loop-self.self in
    sym (answer_heard c.args.number (sending s.end).heard s.in_turn (omega (arith, c.requires.some)) (omega (arith, s.heard_is, c.loop-self-test.false))
    ∙ ap (λ xs. by_refused (list_any (λ y. y == c.args.number) xs)) (sym s.refused_is ∙ sym c.as_slice.ensures.value)
    ∙ ap by_refused (sym c.contains.ensures.value ∙ c.if-contains.true))

pub returns-else-contains-clause-answer : goal.returns-else-contains-clause-answer
returns-else-contains-clause-answer c =
    let s = c.loop-self.self in
    sym (answer_heard c.args.number (sending s.end).heard s.in_turn (omega (arith, c.requires.some)) (omega (arith, s.heard_is, c.loop-self-test.false))
    ∙ ap (λ xs. by_refused (list_any (λ y. y == c.args.number) xs)) (sym s.refused_is ∙ sym c.as_slice.ensures.value)
    ∙ ap by_refused (sym c.contains.ensures.value ∙ c.if-contains.false))
