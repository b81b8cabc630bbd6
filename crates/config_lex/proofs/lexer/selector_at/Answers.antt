use Rattle.std.proofs.Common.{◌≡◌, ◌∙◌, ◌+◌, ◌-◌, ◌++◌, ◌∷◌, [], ◌<◌, ◌≤◌, ℕ, List, suc, length, take, drop, drop-drop, length-drop, length-take-le, get_or, Some, refl, sym, ap, arith, rules}
use Rattle.config_lex.specs.Bytes.{part_length}
use Rattle.config_lex.specs.Lexemes.{Found, parts_at, selector_length, selector_of}
use Rattle.config_lex.specs.declared.token.Token.TheVariants as t
use Rattle.config_lex.proofs.Lexing.{parts_on, parts_stop, parts_end, longer_by}
use Rattle.config_lex.proofs.lexer.selector_at.Goals as goal
use Rattle.config_lex.proofs.lexer.selector_at.Goals.{else-loop-turns-test, then-loop-turns-test+in_default}

selector_some : (parts : List (List ℕ)) (n : ℕ) → (parts ≡ [] → ⊥) → n ≡ selector_length parts → ◌≡◌ {A = Found} (Some (t.Selector parts, n)) (selector_of parts)
selector_some [] n h e = absurd (h refl)
selector_some (p ∷ parts) n h e = ap (λ k. Some (t.Selector (p ∷ parts), k)) e

pub cut_between-requires-clause-within : goal.cut_between-requires-clause-within
cut_between-requires-clause-within c = omega (arith, c.in-Some.ensures.close.0, ap length c.as_bytes.ensures.value)

pub cut_between-requires-clause-behind : goal.cut_between-requires-clause-behind
cut_between-requires-clause-behind c =
    let i = c.loop-turns.at + 1 + c.in-Some.len in
    let e : get_or c.args.text.now i 0 ≡ 93 = ap (λ z. get_or z i 0) (sym c.as_bytes.ensures.value) ∙ c.in-Some.ensures.close.1 in
    omega (arith, e)

pub overflow_add-at-in-loop-turns : goal.overflow_add-at-in-loop-turns
overflow_add-at-in-loop-turns c = let l : c.loop-turns.at + c.in-Some.len ≤ length c.as_bytes.result.now = omega (arith, c.in-Some.ensures.close.0) in search (l, rules)

pub overflow_add-at-in-loop-turns-2 : goal.overflow_add-at-in-loop-turns-2
overflow_add-at-in-loop-turns-2 c = let l : c.loop-turns.at + c.in-Some.len + 2 ≤ length c.as_bytes.result.now = omega (arith, c.in-Some.ensures.close.0) in search (l, rules)

pub loop-turns-preserved : goal.loop-turns-preserved
loop-turns-preserved c =
    let text = c.args.text.now in
    let at = c.loop-turns.at in
    let parts = c.loop-turns.parts in
    let k = c.in-Some.len in
    let n = c.loop-turns.turns - 1 in
    let s = drop at text in
    let same : c.as_bytes.result.now ≡ text = c.as_bytes.ensures.value in
    let l : at + 1 + k < length text = omega (arith, c.in-Some.ensures.close.0, ap length same) in
    let found : part_length s ≡ Some k = ap (λ z. part_length (drop at z)) (sym same) ∙ sym c.part_length.ensures.length ∙ c.in-Some.is in
    let turn : suc n ≡ c.loop-turns.turns = omega (arith, c.loop-turns-test.true) in
    let made : c.push.new.self ≡ parts ++ take k (drop 1 s) ∷ [] = c.in_ok-push.ensures.ok ∙ ap (λ z. parts ++ z ∷ []) (c.in_ok-cut_between.ensures ∙ ap (take k) (sym (drop-drop 1 at text))) in
    let e : at + k + 2 ≡ at + (k + 2) = omega arith in
    let room : k ≤ length (drop 1 s) = omega (arith, l, ap length (drop-drop 1 at text), length-drop (at + 1) text) in
    record {
      within = omega (arith, l);
      length_is = omega (arith, c.loop-turns.invariant.length_is, ap selector_length made, longer_by parts (take k (drop 1 s)), length-take-le k (drop 1 s) room);
      same = ap (λ f. parts_at n f (drop (at + k + 2) text)) made ∙ ap (parts_at n (parts ++ take k (drop 1 s) ∷ [])) (ap (λ i. drop i text) e ∙ sym (drop-drop (k + 2) at text))
          ∙ sym (parts_on n k parts s found) ∙ ap (λ m. parts_at m parts s) turn ∙ c.loop-turns.invariant.same;
    }

pub returns-then-is_empty-clause-gives : goal.returns-then-is_empty-clause-gives
returns-then-is_empty-clause-gives c =
    let parts = c.loop-turns.parts in
    let s = drop c.loop-turns.at c.args.text.now in
    let end : parts_at c.loop-turns.turns parts s ≡ parts = elim c.loop-turns-test.branch [
      | else-loop-turns-test w ↦ ap (λ m. parts_at m parts s) (omega (arith, w.loop-turns-test.false)) ∙ parts_end parts s
      | then-loop-turns-test+in_default w ↦ parts_stop c.loop-turns.turns parts s (ap (λ z. part_length (drop c.loop-turns.at z)) (sym w.as_bytes.ensures.value) ∙ sym w.part_length.ensures.length ∙ w.in_default.is)
    ] in
    let none : parts ≡ [] = c.is_empty.ensures.0 c.if-is_empty.true in
    sym (ap selector_of (sym c.loop-turns.invariant.same ∙ end ∙ none))

pub returns-clause-gives : goal.returns-clause-gives
returns-clause-gives c =
    let parts = c.loop-turns.parts in
    let s = drop c.loop-turns.at c.args.text.now in
    let end : parts_at c.loop-turns.turns parts s ≡ parts = elim c.loop-turns-test.branch [
      | else-loop-turns-test w ↦ ap (λ m. parts_at m parts s) (omega (arith, w.loop-turns-test.false)) ∙ parts_end parts s
      | then-loop-turns-test+in_default w ↦ parts_stop c.loop-turns.turns parts s (ap (λ z. part_length (drop c.loop-turns.at z)) (sym w.as_bytes.ensures.value) ∙ sym w.part_length.ensures.length ∙ w.in_default.is)
    ] in
    let some : parts ≡ [] → ⊥ = λ h. let q = sym (c.is_empty.ensures.1 h) ∙ c.if-is_empty.false in absurd (search (q, rules)) in
    selector_some parts (c.loop-turns.at - c.args.from) some (omega (arith, c.loop-turns.invariant.length_is)) ∙ ap selector_of (sym end ∙ c.loop-turns.invariant.same)
