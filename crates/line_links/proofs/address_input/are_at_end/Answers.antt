use Rattle.std.proofs.Common.{◌∙◌, ◌<◌, [], true, false, length, slice_set, sym, ap, refl, subst, arith}
use Rattle.std.proofs.lemmas.List.{get_or-map, length-set, map-set}
use Rattle.line_links.specs.Listening.{StopsAtOne, events_left, states}
use Rattle.line_links.specs.Takers.{EndsBy, take_state}
use Rattle.line_links.proofs.Giving.{left_ended}
use Rattle.line_links.proofs.InTurn.{changed, ends_all, none_left, passed, stopped}
use Rattle.line_links.proofs.address_input.are_at_end.Goals as goal

pub returns-then-not-is_at_end-clause-ends : goal.returns-then-not-is_at_end-clause-ends
returns-then-not-is_at_end-clause-ends c =
    let l = c.loop-place in
    let xs = l.takers.items in
    let n = length c.args.takers.now.items in
    let lt : l.place < n = omega (arith, c.loop-place-test.true, c.len-place-end.ensures) in
    let here : l.place < length xs = omega (arith, lt, l.invariant.0) in
    let last = states (slice_set xs l.place c.is_at_end.new.self) in
    let ends = subst (λ b. EndsBy b (take_state c.index_mut.result.now) (take_state c.is_at_end.new.self)) c.if-not-is_at_end.true c.is_at_end.ensures.ends in
    ends_all c.args.takers.now.items false last
    (l.invariant.1.1 false last (stopped (EndsBy true) StopsAtOne true l.place n [] false (states xs) last lt (refl, changed (EndsBy false) xs l.place c.index_mut.result.now c.is_at_end.new.self here c.index_mut.ensures.value ends)))

pub returns-then-not-is_at_end-clause-events : goal.returns-then-not-is_at_end-clause-events
returns-then-not-is_at_end-clause-events c =
    let l = c.loop-place in
    let xs = l.takers.items in
    let x = c.index_mut.result.now in
    let here : l.place < length xs = omega (arith, c.loop-place-test.true, c.len-place-end.ensures, l.invariant.0) in
    ap events_left (map-set take_state xs l.place c.is_at_end.new.self)
    ∙ left_ended (states xs) l.place c.is_at_end.result (take_state x) (take_state c.is_at_end.new.self) (ap take_state c.index_mut.ensures.value ∙ sym (get_or-map take_state xs l.place x (take_state x) here)) c.is_at_end.ensures.ends
    ∙ l.invariant.1.0

pub loop-place-preserved : goal.loop-place-preserved
loop-place-preserved c =
    let l = c.loop-place in
    let xs = l.takers.items in
    let x = c.index_mut.result.now in
    let y = c.is_at_end.new.self in
    let n = length c.args.takers.now.items in
    let lt : l.place < n = omega (arith, c.loop-place-test.true, c.len-place-end.ensures) in
    let here : l.place < length xs = omega (arith, lt, l.invariant.0) in
    let ends = subst (λ b. EndsBy b (take_state x) (take_state y)) c.if-not-is_at_end.false c.is_at_end.ensures.ends in (
      length-set xs l.place y ∙ l.invariant.0,
      (
        ap events_left (map-set take_state xs l.place y)
            ∙ left_ended (states xs) l.place c.is_at_end.result (take_state x) (take_state y) (ap take_state c.index_mut.ensures.value ∙ sym (get_or-map take_state xs l.place x (take_state x) here)) c.is_at_end.ensures.ends
            ∙ l.invariant.1.0,
        λ answer last rest. l.invariant.1.1 answer last
            (passed (EndsBy true) StopsAtOne true l.place n [] answer (states xs) (states (slice_set xs l.place y)) last lt (changed (EndsBy true) xs l.place x y here c.index_mut.ensures.value ends) rest),
      ),
    )

pub returns-clause-ends : goal.returns-clause-ends
returns-clause-ends c =
    let l = c.loop-place in
    let n = length c.args.takers.now.items in
    ends_all c.args.takers.now.items true (states l.takers.items)
    (l.invariant.1.1 true (states l.takers.items) (none_left (EndsBy true) StopsAtOne true l.place n [] true (states l.takers.items) (states l.takers.items) (omega (arith, c.loop-place-test.false, c.len-place-end.ensures)) (refl, refl)))
