use Rattle.std.proofs.Common.{◌∙◌, ◌<◌, inr, length, sym, ap, refl, subst, arith, slice_set}
use Rattle.std.proofs.lemmas.List.{get_or-map, map-set}
use Rattle.line_links.specs.Listening.{AnswersAt, Listening, events_left, states}
use Rattle.line_links.specs.Takers.{Settles, take_state}
use Rattle.line_links.proofs.Giving.{left_settled}
use Rattle.line_links.proofs.InTurn.{changed}
use Rattle.line_links.proofs.address_input.AddressInput.answer.Goals as goal

pub returns-clause-answers : goal.returns-clause-answers
returns-clause-answers c =
    let s = c.self.inside in
    let lt : c.args.at < length s.takers.items = omega (arith, c.if-at-len.false, c.len.ensures) in
    subst (λ (l : Listening). AnswersAt c.args.at c.args.front c.assure.result l (record { takers = states (slice_set s.takers.items c.args.at c.assure.new.self); first = s.first })) c.self.view_is
    (inr (changed (Settles c.args.front c.assure.result) s.takers.items c.args.at c.index_mut.result.now c.assure.new.self lt c.index_mut.ensures.value c.assure.ensures.settles, refl))

pub returns-clause-events : goal.returns-clause-events
returns-clause-events c =
    let xs = c.self.inside.takers.items in
    let x = c.index_mut.result.now in
    let lt : c.args.at < length xs = omega (arith, c.if-at-len.false, c.len.ensures) in
    ap events_left (map-set take_state xs c.args.at c.assure.new.self)
    ∙ left_settled (states xs) c.args.at c.args.front c.assure.result (take_state x) (take_state c.assure.new.self)
    (ap take_state c.index_mut.ensures.value ∙ sym (get_or-map take_state xs c.args.at x (take_state x) lt)) c.assure.ensures.settles
    ∙ ap (λ (l : Listening). events_left l.takers) c.self.view_is
