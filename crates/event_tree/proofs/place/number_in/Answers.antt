use Rattle.std.proofs.Common.{◌+◌, ◌*◌, ◌-◌, suc, drop, get_or, sym, ap, ◌∙◌, arith}
use Rattle.event_tree.specs.Paths.{at_most}
use Rattle.event_tree.proofs.Digits.{digits_step, past_limit}
use Rattle.event_tree.proofs.place.number_in.Goals as goal

pub returns-then-number-limit-clause-exact : goal.returns-then-number-limit-clause-exact
returns-then-number-limit-clause-exact c =
    let bs = c.args.bytes.now in
    let i = c.loop-byte.byte-index in
    sym (past_limit (10 * c.loop-byte.number + (get_or bs i 0 - 48)) c.args.limit (drop (suc i) bs) (omega arith))
    ∙ ap (at_most c.args.limit) (sym (digits_step c.loop-byte.number bs i (omega arith) (omega arith) (omega arith))) ∙ c.loop-byte.invariant.same

pub returns-then-digit-limit-clause-exact : goal.returns-then-digit-limit-clause-exact
returns-then-digit-limit-clause-exact c =
    let bs = c.args.bytes.now in
    let i = c.loop-byte.byte-index in
    sym (past_limit (10 * c.loop-byte.number + (get_or bs i 0 - 48)) c.args.limit (drop (suc i) bs) (omega arith))
    ∙ ap (at_most c.args.limit) (sym (digits_step c.loop-byte.number bs i (omega arith) (omega arith) (omega arith))) ∙ c.loop-byte.invariant.same
