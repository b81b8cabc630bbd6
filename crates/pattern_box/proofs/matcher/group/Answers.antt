use Rattle.std.proofs.Common.{refl, sym, ◌∙◌, arith}
use Rattle.std.proofs.lemmas.Bool.Decides.{nat_tests}
use Rattle.regex.specs.Search.{group_span}
use Rattle.regex.proofs.Utf8Lemmas.{IsCharBoundary-of_test}
use Rattle.pattern_box.proofs.matcher.group.Goals as goal

pub returns-then-index-eq0-clause-value : goal.returns-then-index-eq0-clause-value
unfolding group_span
returns-then-index-eq0-clause-value c =
    rw c.if-index-eq0.true refl

pub returns-then-first-eq0-clause-value : goal.returns-then-first-eq0-clause-value
unfolding group_span
returns-then-first-eq0-clause-value c =
    grind (arith, nat_tests)

pub returns-then-not-begins_character-clause-value : goal.returns-then-not-begins_character-clause-value
unfolding group_span
returns-then-not-begins_character-clause-value c =
    grind (arith, nat_tests)

pub returns-clause-value : goal.returns-clause-value
unfolding group_span
returns-clause-value c =
    grind (arith, nat_tests)

pub returns-clause-inside : goal.returns-clause-inside
returns-clause-inside c =
    let first = sym c.begins_character.ensures ∙ c.if-not-begins_character.false in
    let last = sym c.begins_character-else-not-begins_character.ensures ∙ c.if-not-begins_character-2.false in (
      (omega arith, omega arith, omega arith),
      (IsCharBoundary-of_test _ _ (omega arith) first, IsCharBoundary-of_test _ _ (omega arith) last),
    )
