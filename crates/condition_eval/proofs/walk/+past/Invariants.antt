use Rattle.std.proofs.Common.{◌≡◌, ◌+◌, ◌*◌, length, drop}
use Rattle.condition_eval.specs.Made.{texts_behind}
use Rattle.condition_eval.proofs.Weights.{weight, row_weight}
use Rattle.condition_eval.proofs.walk.+past.Given as goal

abbrev pub invariant-past_conjoined-loop-part : goal.invariant-past_conjoined-loop-part
invariant-past_conjoined-loop-part l = l.next + length (texts_behind (drop l.part-index l.rest)) ≡ l.at + length (texts_behind l.rest)

abbrev pub invariant-past_disjoined-loop-part : goal.invariant-past_disjoined-loop-part
invariant-past_disjoined-loop-part l = l.next + length (texts_behind (drop l.part-index l.rest)) ≡ l.at + length (texts_behind l.rest)

abbrev pub decreases-past : goal.decreases-past
decreases-past l = 2 * weight l.condition.now

abbrev pub decreases-past_conjoined : goal.decreases-past_conjoined
decreases-past_conjoined l = 2 * row_weight l.rest.now + 1

abbrev pub decreases-past_disjoined : goal.decreases-past_disjoined
decreases-past_disjoined l = 2 * row_weight l.rest.now + 1
