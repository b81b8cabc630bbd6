use Rattle.std.proofs.Common.{◌∙◌, ◌-◌, Ok, None, length, ap, subst, arith}
use Rattle.line_links.specs.Answers.{numbers_from}
use Rattle.line_links.specs.Listening.{PollsInTurn, PollsOn, states}
use Rattle.line_links.proofs.InTurn.{in_turn_from, polls_then}
use Rattle.line_links.proofs.address_input.poll_in_turn.Goals as goal

pub returns-in-None-clause-polls : goal.returns-in-None-clause-polls
returns-in-None-clause-polls c =
    let r = c.poll_from-in-None.result in
    let old = states c.args.takers.now.items in
    let mid = states c.poll_from.new.takers.items in
    let new = states c.poll_from-in-None.new.takers.items in
    let one : PollsOn (Ok None) (numbers_from c.min-begin.result (c.len-many.result - c.min-begin.result)) old mid
    = subst (λ x. PollsOn x (numbers_from c.min-begin.result (c.len-many.result - c.min-begin.result)) old mid) (c.in_ok-place.was ∙ ap Ok c.in-None.is) c.poll_from.ensures.polls in
    subst (λ ps. PollsInTurn ps r old new) (in_turn_from c.args.first (length c.args.takers.now.items) c.min-begin.result c.len-many.result c.min-begin.ensures (omega (arith, c.len-many.ensures, c.args.takers.now.ok.0)))
    (polls_then r (numbers_from c.min-begin.result (c.len-many.result - c.min-begin.result)) (numbers_from 0 (c.min-begin.result - 0)) old mid new one c.poll_from-in-None.ensures.polls)
