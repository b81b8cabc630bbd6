use Rattle.std.proofs.Common.{◌∙◌, ◌<◌, ◌≤◌, length, sym, ap, arith}
use Rattle.std.proofs.lemmas.Bool.{le-ltb}
use Rattle.std.proofs.lemmas.List.{get_or-map, length-map}
use Rattle.line_links.specs.Listening.{Listening, is_due_at, states}
use Rattle.line_links.specs.Takers.{take_state}
use Rattle.line_links.proofs.Giving.{due_past, due_there}
use Rattle.line_links.proofs.address_input.AddressInput.is_due.Goals as goal

pub returns-then-at-len : goal.returns-then-at-len
returns-then-at-len c =
    let xs = c.self.inside.takers.items in
    let lt : c.args.at < length xs = omega (arith, c.if-at-len.true, c.len.ensures) in
    c.is_due.ensures
    ∙ sym (due_there c.args.front (states xs) c.args.at (take_state c.index.result.now) (omega (arith, lt, length-map xs take_state))
    (ap take_state c.index.ensures ∙ sym (get_or-map take_state xs c.args.at c.index.result.now (take_state c.index.result.now) lt)))
    ∙ ap (λ (l : Listening). is_due_at c.args.front c.args.at l.takers) c.self.view_is

pub returns-else-at-len : goal.returns-else-at-len
returns-else-at-len c =
    let xs = c.self.inside.takers.items in
    let past : length (states xs) ≤ c.args.at = omega (arith, c.if-at-len.false, c.len.ensures, length-map xs take_state) in
    le-ltb c.args.at c.len.result c.if-at-len.false ∙ sym (due_past c.args.front (states xs) c.args.at past) ∙ ap (λ (l : Listening). is_due_at c.args.front c.args.at l.takers) c.self.view_is
