use Rattle.std.proofs.Common.{◌≡◌, ◌∙◌, List, slice_set, ap, sym, subst, arith}
use Rattle.line_links.specs.Listening.{Listening, giving_place, states, with_row}
use Rattle.line_links.specs.Takers.{TakeState}
use Rattle.line_links.proofs.Giving.{noted_there, unnoted_there}
use Rattle.line_links.proofs.address_input.AddressInput.note_row.Goals as goal

pub returns-then-place-len : goal.returns-then-place-len
returns-then-place-len c =
    let s = c.self.inside in
    let p = c.giving_place-place.result in
    let is : p ≡ giving_place (states s.takers.items) = c.giving_place-place.ensures ∙ ap (λ l. giving_place (states l)) c.as_slice.ensures.value in
    let after : List TakeState → Listening = λ ts. record { takers = ts; first = s.first } in
    subst (λ (l : Listening). after (states (slice_set s.takers.items p c.note_given.new.self)) ≡ with_row c.args.number l) c.self.view_is
    (ap after (noted_there s.takers.items p is c.index_mut.result.now (omega (arith, c.if-place-len.true, c.len.ensures)) c.index_mut.ensures.value c.note_given.new.self c.args.number c.note_given.ensures.notes))

pub returns-else-place-len : goal.returns-else-place-len
returns-else-place-len c =
    let s = c.self.inside in
    let p = c.giving_place-place.result in
    let is : p ≡ giving_place (states s.takers.items) = c.giving_place-place.ensures ∙ ap (λ l. giving_place (states l)) c.as_slice.ensures.value in
    let after : List TakeState → Listening = λ ts. record { takers = ts; first = s.first } in
    subst (λ (l : Listening). l ≡ with_row c.args.number l) c.self.view_is (ap after (sym (unnoted_there s.takers.items p is c.args.number (omega (arith, c.if-place-len.false, c.len.ensures)))))
