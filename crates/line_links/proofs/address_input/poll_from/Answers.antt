use Rattle.std.proofs.Common.{◌≡◌, ◌∙◌, ◌<◌, ◌-◌, Some, None, Ok, Err, length, slice_set, ap, refl, arith}
use Rattle.std.proofs.lemmas.List.{length-set}
use Rattle.std.proofs.Math.Seq.{map-set_same}
use Rattle.line_links.specs.Answers.{numbers_from}
use Rattle.line_links.specs.Listening.{Finds, PassesOver, StopsPolls, states}
use Rattle.line_links.specs.Takers.{take_state}
use Rattle.line_links.proofs.InTurn.{changed, none_left, passed, polls_failed, stopped}
use Rattle.line_links.proofs.address_input.poll_from.Goals as goal

pub returns-in_err-look-clause-polls : goal.returns-in_err-look-clause-polls
returns-in_err-look-clause-polls c =
    let l = c.loop-place in
    let xs = l.takers.items in
    let after = states (slice_set xs l.place c.look.new.self) in
    let same : after ≡ states xs = map-set_same take_state xs l.place c.look.new.self c.index_mut.result.now (c.in_err-look.ensures.err ∙ ap take_state c.index_mut.ensures.value) in
    polls_failed c.from_residual.result (numbers_from c.args.from (c.args.end - c.args.from)) (states c.args.takers.now.items) after c.from_residual.ensures.0
    (λ e more. l.invariant.1 more (Err e) after (stopped PassesOver StopsPolls (Ok None) l.place c.args.end more (Err e) (states xs) after (omega (arith, c.loop-place-test.true)) same))

pub returns-then-branch-clause-polls : goal.returns-then-branch-clause-polls
returns-then-branch-clause-polls c = λ more.
    let l = c.loop-place in
    let xs = l.takers.items in
    let here : l.place < length xs = omega (arith, c.loop-place-test.true, c.requires, l.invariant.0) in
    let found = c.look.ensures.found (c.in_ok-look.was ∙ ap Ok c.if-branch.true) in
    l.invariant.1 more (Ok (Some l.place)) (states (slice_set xs l.place c.look.new.self))
    (stopped PassesOver StopsPolls (Ok None) l.place c.args.end more (Ok (Some l.place)) (states xs) (states (slice_set xs l.place c.look.new.self)) (omega (arith, c.loop-place-test.true))
    (refl, changed Finds xs l.place c.index_mut.result.now c.look.new.self here c.index_mut.ensures.value found))

pub loop-place-preserved : goal.loop-place-preserved
loop-place-preserved c =
    let l = c.loop-place in
    let xs = l.takers.items in
    let here : l.place < length xs = omega (arith, c.loop-place-test.true, c.requires, l.invariant.0) in
    let over = c.look.ensures.none (c.in_ok-look.was ∙ ap Ok c.if-branch.false) in (
      length-set xs l.place c.look.new.self ∙ l.invariant.0,
      λ more answer last rest. l.invariant.1 more answer last
          (passed PassesOver StopsPolls (Ok None) l.place c.args.end more answer (states xs) (states (slice_set xs l.place c.look.new.self)) last (omega (arith, c.loop-place-test.true))
          (changed PassesOver xs l.place c.index_mut.result.now c.look.new.self here c.index_mut.ensures.value over) rest),
    )

pub returns-clause-polls : goal.returns-clause-polls
returns-clause-polls c = λ more answer last rest.
    let l = c.loop-place in
    l.invariant.1 more answer last (none_left PassesOver StopsPolls (Ok None) l.place c.args.end more answer (states l.takers.items) last (omega (arith, c.loop-place-test.false)) rest)
