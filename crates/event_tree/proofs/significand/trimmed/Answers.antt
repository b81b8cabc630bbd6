use Rattle.std.proofs.Common.{◌≡◌, ◌≢◌, ◌<◌, ◌≤◌, ◌+◌, ◌-◌, ◌%◌, ℕ, zero, suc, List, [], ◌++◌, length, take, get_or, refl, sym, ap, ◌∙◌, arith, length-take}
use Rattle.std.proofs.lemmas.List.{append-nil}
use Rattle.event_tree.specs.NumberTexts.{AreDigits, number, tens}
use Rattle.event_tree.proofs.Tens.{number-append, number-trimmed, tens-add}
use Rattle.event_tree.proofs.significand.trimmed.Goals as goal

pub returns-then-count-gt0-clause-significand : goal.returns-then-count-gt0-clause-significand
returns-then-count-gt0-clause-significand c =
    let w = c.args.whole.now in
    let f = c.args.fraction.now in
    let k = c.count_without_zeros-count.result in
    let e = c.count_without_zeros-count.ensures in
    let l : length w + length f - (length w + length (take k f)) ≡ length f - k = omega (arith, e.within, length-take k f) in
    let same : number 0 (w ++ f) ≡ tens (number 0 (w ++ take k f)) (length f - k) =
    number-append 0 w f ∙ e.zeros (number 0 w) ∙ ap (λ x. tens x (length f - k)) (sym (number-append 0 w (take k f))) in
    (same ∙ ap (tens (number 0 (w ++ take k f))) (sym l), λ z. absurd (number-trimmed (number 0 w) f k c.requires.fraction e.within c.if-count-gt0.true (e.last c.if-count-gt0.true) (ap (λ x. x % 10) (sym (number-append 0 w (take k f))) ∙ z)))

trimmed_whole : (w : List ℕ) (k : ℕ) → AreDigits w → k ≤ length w → (0 < k → get_or w (k - 1) 0 ≢ 48) → number 0 (take k w) % 10 ≡ 0 → number 0 (take k w) ≡ 0
trimmed_whole w zero a h l z = refl
trimmed_whole w (suc k) a h l z = absurd (number-trimmed 0 w (suc k) a h (omega arith) (l (omega arith)) z)

pub returns-else-count-gt0-clause-significand : goal.returns-else-count-gt0-clause-significand
returns-else-count-gt0-clause-significand c =
    let w = c.args.whole.now in
    let f = c.args.fraction.now in
    let k = c.count_without_zeros.result in
    let e = c.count_without_zeros.ensures in
    let none : c.count_without_zeros-count.result ≡ 0 = omega (arith, c.if-count-gt0.false) in
    let n : take k w ++ [] ≡ take k w = append-nil (take k w) in
    let all : number (number 0 w) f ≡ tens (number 0 w) (length f) = c.count_without_zeros-count.ensures.zeros (number 0 w) ∙ ap (λ i. tens (number (number 0 w) (take i f)) (length f - i)) none ∙ ap (tens (number 0 w)) (omega arith) in
    let l : (length w - k) + length f ≡ length w + length f - (length (take k w) + 0) = omega (arith, e.within, length-take k w) in
    let same : number 0 (w ++ f) ≡ tens (number 0 (take k w)) (length w + length f - (length (take k w) + 0)) =
    number-append 0 w f ∙ all ∙ ap (λ x. tens x (length f)) (e.zeros 0) ∙ sym (tens-add (number 0 (take k w)) (length w - k) (length f)) ∙ ap (tens (number 0 (take k w))) l in (
      same ∙ ap (λ x. tens (number 0 x) (length w + length f - (length (take k w) + 0))) (sym n),
      λ z. ap (number 0) n ∙ trimmed_whole w k c.requires.whole e.within e.last (ap (λ x. number 0 x % 10) (sym n) ∙ z),
    )
