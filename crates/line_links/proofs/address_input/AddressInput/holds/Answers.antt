use Rattle.std.proofs.Common.{◌≡◌, ◌↔◌, ◌∙◌, false, [], ap, sym, subst, arith}
use Rattle.std.proofs.lemmas.Bool.{le-ltb}
use Rattle.line_links.specs.Listening.{Listening, events_left, giving_place, states}
use Rattle.line_links.proofs.Giving.{holds_there, none_there}
use Rattle.line_links.proofs.address_input.AddressInput.holds.Goals as goal

pub returns-then-place-len : goal.returns-then-place-len
returns-then-place-len c =
    let xs = c.self.inside.takers.items in
    let p = c.giving_place-place.result in
    let is : p ≡ giving_place (states xs) = c.giving_place-place.ensures ∙ ap (λ l. giving_place (states l)) c.as_slice.ensures.value in
    let so = holds_there xs p is c.index.result.now (omega (arith, c.if-place-len.true, c.len.ensures)) c.index.ensures in
    subst (λ (l : Listening). (c.holds.result ≡ false) ↔ (events_left l.takers ≡ [])) c.self.view_is (λ no. so.0 (sym c.holds.ensures ∙ no), λ none. c.holds.ensures ∙ so.1 none)

pub returns-else-place-len : goal.returns-else-place-len
returns-else-place-len c =
    let xs = c.self.inside.takers.items in
    let p = c.giving_place-place.result in
    let is : p ≡ giving_place (states xs) = c.giving_place-place.ensures ∙ ap (λ l. giving_place (states l)) c.as_slice.ensures.value in
    let none = none_there xs p is (omega (arith, c.if-place-len.false, c.len.ensures)) in (
      λ no. ap (λ (l : Listening). events_left l.takers) (sym c.self.view_is) ∙ none.1,
      λ empty. le-ltb p c.len.result c.if-place-len.false,
    )
