use Rattle.std.proofs.Common.{◌≡◌, ◌∙◌, inl, inr, IfNone, [], length, slice_set, refl, ap, sym, subst, arith}
use Rattle.line_links.specs.Listening.{GivesNext, Listening, events_left, giving_place, states}
use Rattle.line_links.proofs.Giving.{gave_there, left_there, none_there}
use Rattle.line_links.proofs.address_input.AddressInput.next.Goals as goal

pub returns-then-place-len-clause-gives : goal.returns-then-place-len-clause-gives
returns-then-place-len-clause-gives c =
    let s = c.self.inside in
    let p = c.giving_place-place.result in
    let is : p ≡ giving_place (states s.takers.items) = c.giving_place-place.ensures ∙ ap (λ l. giving_place (states l)) c.as_slice.ensures.value in
    let none = none_there s.takers.items p is (omega (arith, c.if-place-len.true, c.len.ensures)) in
    inl (ap (λ (l : Listening). giving_place l.takers) (sym c.self.view_is) ∙ none.0 ∙ ap (λ (l : Listening). length l.takers) c.self.view_is, (refl, refl))

pub returns-then-place-len-clause-none : goal.returns-then-place-len-clause-none
returns-then-place-len-clause-none c =
    let s = c.self.inside in
    let p = c.giving_place-place.result in
    let is : p ≡ giving_place (states s.takers.items) = c.giving_place-place.ensures ∙ ap (λ l. giving_place (states l)) c.as_slice.ensures.value in
    ap (λ (l : Listening). events_left l.takers) (sym c.self.view_is) ∙ (none_there s.takers.items p is (omega (arith, c.if-place-len.true, c.len.ensures))).1

pub returns-clause-gives : goal.returns-clause-gives
returns-clause-gives c =
    let s = c.self.inside in
    let p = c.giving_place-place.result in
    let is : p ≡ giving_place (states s.takers.items) = c.giving_place-place.ensures ∙ ap (λ l. giving_place (states l)) c.as_slice.ensures.value in
    subst (λ (l : Listening). GivesNext c.next.result l (record { takers = states (slice_set s.takers.items p c.next.new.self); first = s.first })) c.self.view_is
    (inr (gave_there s.takers.items p is c.index_mut.result.now (omega (arith, c.if-place-len.false, c.len.ensures)) c.index_mut.ensures.value c.next.new.self c.next.result c.next.ensures.gives, refl))

pub returns-clause-events : goal.returns-clause-events
returns-clause-events c =
    let s = c.self.inside in
    let p = c.giving_place-place.result in
    let is : p ≡ giving_place (states s.takers.items) = c.giving_place-place.ensures ∙ ap (λ l. giving_place (states l)) c.as_slice.ensures.value in
    ap (λ (l : Listening). events_left l.takers) (sym c.self.view_is)
    ∙ (left_there s.takers.items p is c.index_mut.result.now (omega (arith, c.if-place-len.false, c.len.ensures)) c.index_mut.ensures.value c.next.new.self c.next.result c.next.ensures.gives).0

pub returns-clause-none : goal.returns-clause-none
returns-clause-none c =
    let s = c.self.inside in
    let p = c.giving_place-place.result in
    let is : p ≡ giving_place (states s.takers.items) = c.giving_place-place.ensures ∙ ap (λ l. giving_place (states l)) c.as_slice.ensures.value in
    subst (λ (l : Listening). IfNone c.next.result (events_left l.takers ≡ [])) c.self.view_is
    (left_there s.takers.items p is c.index_mut.result.now (omega (arith, c.if-place-len.false, c.len.ensures)) c.index_mut.ensures.value c.next.new.self c.next.result c.next.ensures.gives).1
