use Rattle.std.proofs.Common.{◌≡◌, ◌∷◌, ◌+◌, ◌-◌, ◌<◌, ◌≤◌, List, length, drop, get_or, sym, ap, ◌∙◌, arith, rules, Some, None}
use Rattle.std.proofs.lemmas.List.{length-drop}
use Rattle.filters_mutate.specs.Gsub.{substitution}
use Rattle.filters_mutate.proofs.Substitutions.{three_more, read_more, read_few}
use Rattle.filters_mutate.proofs.gsub.read_substitutions.Goals as goal

pub loop-at-preserved : goal.loop-at-preserved
loop-at-preserved c =
    let texts = c.args.texts.now in
    let l = c.loop-at in
    let within : l.at + 3 ≤ length texts = omega (arith, l.invariant.0, c.loop-at-test.true) in
    let f = c.index-texts-at.result in
    let s = c.index-texts-at-in-loop-at.result in
    let r = c.index-texts-at-in-loop-at-2.result in
    let three : drop l.at texts ≡ f ∷ s ∷ r ∷ drop (l.at + 3) texts =
    three_more texts l.at f s r within
    ∙ ap (λ x. x ∷ get_or texts (l.at + 1) s ∷ get_or texts (l.at + 2) r ∷ drop (l.at + 3) texts) (sym c.index-texts-at.is)
    ∙ ap (λ x. f ∷ x ∷ get_or texts (l.at + 2) r ∷ drop (l.at + 3) texts) (sym c.index-texts-at-in-loop-at.is)
    ∙ ap (λ x. f ∷ s ∷ x ∷ drop (l.at + 3) texts) (sym c.index-texts-at-in-loop-at-2.is) in
    let here : Some c.in-Some.says ≡ substitution f s r = search rules in (
      within,
      rw c.in_ok-push.ensures.ok (read_more l.found f s r (drop (l.at + 3) texts) texts (drop l.at texts) three l.invariant.1 c.in-Some.says here),
    )

pub returns-else-at-texts : goal.returns-else-at-texts
returns-else-at-texts c =
    let texts = c.args.texts.now in
    let at = c.loop-at.at in
    let left = length-drop at texts in
    read_few c.loop-at.found (drop at texts) texts (omega (arith, left, c.loop-at.invariant.0, c.if-at-texts.false)) (omega (arith, left, c.loop-at-test.false)) c.loop-at.invariant.1
