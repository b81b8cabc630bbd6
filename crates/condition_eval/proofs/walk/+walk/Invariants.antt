use Rattle.std.proofs.Common.{◌≡◌, ◌+◌, ◌*◌, [], length, drop}
use Rattle.condition_eval.specs.Made.{BeginWith, texts_behind, meanings}
use Rattle.condition_eval.specs.Truths.{conjoined_row, disjoined_row}
use Rattle.condition_eval.proofs.Weights.{weight, row_weight}
use Rattle.condition_eval.proofs.walk.+walk.Given as goal

abbrev pub invariant-conjoined-loop-part : goal.invariant-conjoined-loop-part
invariant-conjoined-loop-part l =
    (conjoined_row l.left.truth l.event (drop l.part-index l.rest) ≡ conjoined_row l.fn.first.truth l.event l.rest)
    × (l.left.next + length (texts_behind (drop l.part-index l.rest)) ≡ l.fn.first.next + length (texts_behind l.rest))
    × BeginWith (texts_behind (drop l.part-index l.rest)) (drop l.left.next l.patterns)
    × (meanings l.patterns ≡ meanings l.fn.patterns)
    × (texts_behind l.rest ≡ [] → texts_behind (drop l.part-index l.rest) ≡ [])

abbrev pub invariant-disjoined-loop-part : goal.invariant-disjoined-loop-part
invariant-disjoined-loop-part l =
    (disjoined_row l.left.truth l.event (drop l.part-index l.rest) ≡ disjoined_row l.fn.first.truth l.event l.rest)
    × (l.left.next + length (texts_behind (drop l.part-index l.rest)) ≡ l.fn.first.next + length (texts_behind l.rest))
    × BeginWith (texts_behind (drop l.part-index l.rest)) (drop l.left.next l.patterns)
    × (meanings l.patterns ≡ meanings l.fn.patterns)
    × (texts_behind l.rest ≡ [] → texts_behind (drop l.part-index l.rest) ≡ [])

abbrev pub decreases-walk : goal.decreases-walk
decreases-walk l = 2 * weight l.condition.now

abbrev pub decreases-conjoined : goal.decreases-conjoined
decreases-conjoined l = 2 * row_weight l.rest.now + 1

abbrev pub decreases-disjoined : goal.decreases-disjoined
decreases-disjoined l = 2 * row_weight l.rest.now + 1

abbrev pub decreases-conjoin : goal.decreases-conjoin
decreases-conjoin l = 2 * weight l.right.now + 1

abbrev pub decreases-disjoin : goal.decreases-disjoin
decreases-disjoin l = 2 * weight l.right.now + 1
