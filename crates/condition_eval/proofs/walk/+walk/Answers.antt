use Rattle.std.proofs.Common.{◌≡◌, ◌<◌, ◌+◌, length, drop, sym, ap, ◌∙◌, arith, rules}
use Rattle.condition_eval.specs.Made.{texts, texts_behind}
use Rattle.condition_eval.specs.Truths.{by_conjunction, by_disjunction, conjoined_row, disjoined_row}
use Rattle.condition_eval.proofs.Making.{begins_of, begins_left, begins_next, none_left, none_right, past_fits}
use Rattle.condition_eval.proofs.Rows.{row_on, texts_on, count_on, says-Conjoined, says-Disjoined, ok_then}
use Rattle.condition_eval.proofs.TextsOf as of
use Rattle.condition_eval.proofs.Weights.{part_lighter, weight-Not, weight-Conjoined, weight-Disjoined}
use Rattle.config_tree.specs.declared.tree.Condition.TheVariants as v
use Rattle.condition_eval.proofs.walk.+walk.Goals as goal

pub walk-walk-requires : goal.walk-walk-requires
walk-walk-requires t c =
    let is : c.args.condition.now ≡ v.Not c.get.result.now = search rules in
    (omega (arith, weight-Not c.args.condition.now c.get.result.now is), begins_of (texts c.args.condition.now) (texts c.get.result.now) (drop c.args.at c.args.patterns.now) (of.texts_of-Not c.args.condition.now c.get.result.now is) c.requires)

pub walk-walk-requires-in-Conjoined : goal.walk-walk-requires-in-Conjoined
walk-walk-requires-in-Conjoined t c =
    let is : c.args.condition.now ≡ v.Conjoined c.get-in-Conjoined.result.now c.in-Conjoined.rest = search rules in
    let begins = begins_of (texts c.args.condition.now) _ (drop c.args.at c.args.patterns.now) (of.texts_of-Conjoined c.args.condition.now c.get-in-Conjoined.result.now c.in-Conjoined.rest is) c.requires in
    (omega (arith, weight-Conjoined c.args.condition.now c.get-in-Conjoined.result.now c.in-Conjoined.rest is), begins_left (texts c.get-in-Conjoined.result.now) (texts_behind c.in-Conjoined.rest) (drop c.args.at c.args.patterns.now) begins)

pub walk-returns-in_err-first-in-Conjoined-clause-without_patterns : goal.walk-returns-in_err-first-in-Conjoined-clause-without_patterns
walk-returns-in_err-first-in-Conjoined-clause-without_patterns t c =
    let is : c.args.condition.now ≡ v.Conjoined c.get-in-Conjoined.result.now c.in-Conjoined.rest = search rules in
    λ none. absurd (search (c.in_err-first-in-Conjoined.ensures.without_patterns (none_left (texts c.get-in-Conjoined.result.now) (texts_behind c.in-Conjoined.rest) (sym (of.texts_of-Conjoined c.args.condition.now c.get-in-Conjoined.result.now c.in-Conjoined.rest is) ∙ none)), rules))

pub walk-conjoined-requires : goal.walk-conjoined-requires
walk-conjoined-requires t c =
    let is : c.args.condition.now ≡ v.Conjoined c.get-in-Conjoined.result.now c.as_slice.result.now = search rules in
    let begins = begins_of (texts c.args.condition.now) _ (drop c.args.at c.args.patterns.now) (of.texts_of-Conjoined c.args.condition.now c.get-in-Conjoined.result.now c.as_slice.result.now is) c.requires in (
      omega (arith, weight-Conjoined c.args.condition.now c.get-in-Conjoined.result.now c.as_slice.result.now is),
      begins_next (texts c.get-in-Conjoined.result.now) (texts_behind c.as_slice.result.now) c.args.at c.in_ok-first-in-Conjoined.first.next c.args.patterns.now c.walk-in-Conjoined.new.patterns begins c.in_ok-first-in-Conjoined.ensures.same c.in_ok-first-in-Conjoined.ensures.next,
    )

pub walk-returns-in_ok-first-in-Conjoined-clause-truth : goal.walk-returns-in_ok-first-in-Conjoined-clause-truth
walk-returns-in_ok-first-in-Conjoined-clause-truth t c =
    let is : c.args.condition.now ≡ v.Conjoined c.get-in-Conjoined.result.now c.as_slice.result.now = search rules in
    ok_then c.conjoined.result _ _ (λ p h. h ∙ ap (λ x. conjoined_row x c.args.event.now c.as_slice.result.now) c.in_ok-first-in-Conjoined.ensures.truth ∙ sym (says-Conjoined c.args.condition.now c.get-in-Conjoined.result.now c.as_slice.result.now c.args.event.now is)) c.conjoined.ensures.truth

pub walk-returns-in_ok-first-in-Conjoined-clause-next : goal.walk-returns-in_ok-first-in-Conjoined-clause-next
walk-returns-in_ok-first-in-Conjoined-clause-next t c =
    let is : c.args.condition.now ≡ v.Conjoined c.get-in-Conjoined.result.now c.as_slice.result.now = search rules in
    ok_then c.conjoined.result _ _ (λ p h. omega (arith, h, c.in_ok-first-in-Conjoined.ensures.next, of.counted-Conjoined c.args.condition.now c.get-in-Conjoined.result.now c.as_slice.result.now is)) c.conjoined.ensures.next

pub walk-returns-in_ok-first-in-Conjoined-clause-without_patterns : goal.walk-returns-in_ok-first-in-Conjoined-clause-without_patterns
walk-returns-in_ok-first-in-Conjoined-clause-without_patterns t c =
    let is : c.args.condition.now ≡ v.Conjoined c.get-in-Conjoined.result.now c.as_slice.result.now = search rules in
    λ none. c.conjoined.ensures.without_patterns (none_right (texts c.get-in-Conjoined.result.now) (texts_behind c.as_slice.result.now) (sym (of.texts_of-Conjoined c.args.condition.now c.get-in-Conjoined.result.now c.as_slice.result.now is) ∙ none))

pub conjoin-past-requires : goal.conjoin-past-requires
conjoin-past-requires t c =
    let few : length c.args.patterns.now < 18446744073709551616 = search rules in
    let near : c.args.left.next < 18446744073709551616 = search rules in
    past_fits (texts c.args.right.now) c.args.left.next 18446744073709551616 c.args.patterns.now c.requires near few

pub conjoined-conjoin-requires : goal.conjoined-conjoin-requires
conjoined-conjoin-requires t c =
    let lt : c.loop-part.part-index < length c.args.rest.now = omega (arith, c.loop-part-test.true) in
    let begins = begins_of _ _ (drop c.loop-part.left.next c.loop-part.patterns) (texts_on c.args.rest.now c.loop-part.part-index c.part-item.result c.part-item.is lt) c.loop-part.invariant.2 in (
      omega (arith, part_lighter c.args.rest.now c.loop-part.part-index c.part-item.result c.part-item.is lt),
      begins_left (texts c.part-item.result.1) (texts_behind (drop (c.loop-part.part-index + 1) c.args.rest.now)) (drop c.loop-part.left.next c.loop-part.patterns) begins,
    )

pub conjoined-loop-part-preserved : goal.conjoined-loop-part-preserved
conjoined-loop-part-preserved t c =
    let lt : c.loop-part.part-index < length c.args.rest.now = omega (arith, c.loop-part-test.true) in
    let on = texts_on c.args.rest.now c.loop-part.part-index c.part-item.result c.part-item.is lt in
    let behind = texts_behind (drop (c.loop-part.part-index + 1) c.args.rest.now) in
    let begins = begins_of _ _ (drop c.loop-part.left.next c.loop-part.patterns) on c.loop-part.invariant.2 in (
      ap (λ x. conjoined_row x c.args.event.now (drop (c.loop-part.part-index + 1) c.args.rest.now)) c.in_ok-left.ensures.truth
          ∙ sym (row_on by_conjunction c.args.event.now c.loop-part.left.truth c.args.rest.now c.loop-part.part-index c.part-item.result c.part-item.is lt) ∙ c.loop-part.invariant.0,
      omega (arith, c.in_ok-left.ensures.next, c.loop-part.invariant.1, count_on c.args.rest.now c.loop-part.part-index c.part-item.result c.part-item.is lt),
      begins_next (texts c.part-item.result.1) behind c.loop-part.left.next c.in_ok-left.left.next c.loop-part.patterns c.conjoin.new.patterns begins c.in_ok-left.ensures.same c.in_ok-left.ensures.next,
      c.in_ok-left.ensures.same ∙ c.loop-part.invariant.3,
      λ none. none_right (texts c.part-item.result.1) behind (sym on ∙ c.loop-part.invariant.4 none),
    )

pub walk-walk-requires-in-Disjoined : goal.walk-walk-requires-in-Disjoined
walk-walk-requires-in-Disjoined t c =
    let is : c.args.condition.now ≡ v.Disjoined c.get-in-Disjoined.result.now c.in-Disjoined.rest = search rules in
    let begins = begins_of (texts c.args.condition.now) _ (drop c.args.at c.args.patterns.now) (of.texts_of-Disjoined c.args.condition.now c.get-in-Disjoined.result.now c.in-Disjoined.rest is) c.requires in
    (omega (arith, weight-Disjoined c.args.condition.now c.get-in-Disjoined.result.now c.in-Disjoined.rest is), begins_left (texts c.get-in-Disjoined.result.now) (texts_behind c.in-Disjoined.rest) (drop c.args.at c.args.patterns.now) begins)

pub walk-returns-in_err-first-in-Disjoined-clause-without_patterns : goal.walk-returns-in_err-first-in-Disjoined-clause-without_patterns
walk-returns-in_err-first-in-Disjoined-clause-without_patterns t c =
    let is : c.args.condition.now ≡ v.Disjoined c.get-in-Disjoined.result.now c.in-Disjoined.rest = search rules in
    λ none. absurd (search (c.in_err-first-in-Disjoined.ensures.without_patterns (none_left (texts c.get-in-Disjoined.result.now) (texts_behind c.in-Disjoined.rest) (sym (of.texts_of-Disjoined c.args.condition.now c.get-in-Disjoined.result.now c.in-Disjoined.rest is) ∙ none)), rules))

pub walk-disjoined-requires : goal.walk-disjoined-requires
walk-disjoined-requires t c =
    let is : c.args.condition.now ≡ v.Disjoined c.get-in-Disjoined.result.now c.as_slice-in-Disjoined.result.now = search rules in
    let begins = begins_of (texts c.args.condition.now) _ (drop c.args.at c.args.patterns.now) (of.texts_of-Disjoined c.args.condition.now c.get-in-Disjoined.result.now c.as_slice-in-Disjoined.result.now is) c.requires in (
      omega (arith, weight-Disjoined c.args.condition.now c.get-in-Disjoined.result.now c.as_slice-in-Disjoined.result.now is),
      begins_next (texts c.get-in-Disjoined.result.now) (texts_behind c.as_slice-in-Disjoined.result.now) c.args.at c.in_ok-first-in-Disjoined.first.next c.args.patterns.now c.walk-in-Disjoined.new.patterns begins c.in_ok-first-in-Disjoined.ensures.same c.in_ok-first-in-Disjoined.ensures.next,
    )

pub walk-returns-in_ok-first-in-Disjoined-clause-truth : goal.walk-returns-in_ok-first-in-Disjoined-clause-truth
walk-returns-in_ok-first-in-Disjoined-clause-truth t c =
    let is : c.args.condition.now ≡ v.Disjoined c.get-in-Disjoined.result.now c.as_slice-in-Disjoined.result.now = search rules in
    ok_then c.disjoined.result _ _ (λ p h. h ∙ ap (λ x. disjoined_row x c.args.event.now c.as_slice-in-Disjoined.result.now) c.in_ok-first-in-Disjoined.ensures.truth ∙ sym (says-Disjoined c.args.condition.now c.get-in-Disjoined.result.now c.as_slice-in-Disjoined.result.now c.args.event.now is)) c.disjoined.ensures.truth

pub walk-returns-in_ok-first-in-Disjoined-clause-next : goal.walk-returns-in_ok-first-in-Disjoined-clause-next
walk-returns-in_ok-first-in-Disjoined-clause-next t c =
    let is : c.args.condition.now ≡ v.Disjoined c.get-in-Disjoined.result.now c.as_slice-in-Disjoined.result.now = search rules in
    ok_then c.disjoined.result _ _ (λ p h. omega (arith, h, c.in_ok-first-in-Disjoined.ensures.next, of.counted-Disjoined c.args.condition.now c.get-in-Disjoined.result.now c.as_slice-in-Disjoined.result.now is)) c.disjoined.ensures.next

pub walk-returns-in_ok-first-in-Disjoined-clause-without_patterns : goal.walk-returns-in_ok-first-in-Disjoined-clause-without_patterns
walk-returns-in_ok-first-in-Disjoined-clause-without_patterns t c =
    let is : c.args.condition.now ≡ v.Disjoined c.get-in-Disjoined.result.now c.as_slice-in-Disjoined.result.now = search rules in
    λ none. c.disjoined.ensures.without_patterns (none_right (texts c.get-in-Disjoined.result.now) (texts_behind c.as_slice-in-Disjoined.result.now) (sym (of.texts_of-Disjoined c.args.condition.now c.get-in-Disjoined.result.now c.as_slice-in-Disjoined.result.now is) ∙ none))

pub disjoin-past-requires : goal.disjoin-past-requires
disjoin-past-requires t c =
    let few : length c.args.patterns.now < 18446744073709551616 = search rules in
    let near : c.args.left.next < 18446744073709551616 = search rules in
    past_fits (texts c.args.right.now) c.args.left.next 18446744073709551616 c.args.patterns.now c.requires near few

pub disjoined-disjoin-requires : goal.disjoined-disjoin-requires
disjoined-disjoin-requires t c =
    let lt : c.loop-part.part-index < length c.args.rest.now = omega (arith, c.loop-part-test.true) in
    let begins = begins_of _ _ (drop c.loop-part.left.next c.loop-part.patterns) (texts_on c.args.rest.now c.loop-part.part-index c.part-item.result c.part-item.is lt) c.loop-part.invariant.2 in (
      omega (arith, part_lighter c.args.rest.now c.loop-part.part-index c.part-item.result c.part-item.is lt),
      begins_left (texts c.part-item.result.1) (texts_behind (drop (c.loop-part.part-index + 1) c.args.rest.now)) (drop c.loop-part.left.next c.loop-part.patterns) begins,
    )

pub disjoined-loop-part-preserved : goal.disjoined-loop-part-preserved
disjoined-loop-part-preserved t c =
    let lt : c.loop-part.part-index < length c.args.rest.now = omega (arith, c.loop-part-test.true) in
    let on = texts_on c.args.rest.now c.loop-part.part-index c.part-item.result c.part-item.is lt in
    let behind = texts_behind (drop (c.loop-part.part-index + 1) c.args.rest.now) in
    let begins = begins_of _ _ (drop c.loop-part.left.next c.loop-part.patterns) on c.loop-part.invariant.2 in (
      ap (λ x. disjoined_row x c.args.event.now (drop (c.loop-part.part-index + 1) c.args.rest.now)) c.in_ok-left.ensures.truth
          ∙ sym (row_on by_disjunction c.args.event.now c.loop-part.left.truth c.args.rest.now c.loop-part.part-index c.part-item.result c.part-item.is lt) ∙ c.loop-part.invariant.0,
      omega (arith, c.in_ok-left.ensures.next, c.loop-part.invariant.1, count_on c.args.rest.now c.loop-part.part-index c.part-item.result c.part-item.is lt),
      begins_next (texts c.part-item.result.1) behind c.loop-part.left.next c.in_ok-left.left.next c.loop-part.patterns c.disjoin.new.patterns begins c.in_ok-left.ensures.same c.in_ok-left.ensures.next,
      c.in_ok-left.ensures.same ∙ c.loop-part.invariant.3,
      λ none. none_right (texts c.part-item.result.1) behind (sym on ∙ c.loop-part.invariant.4 none),
    )
