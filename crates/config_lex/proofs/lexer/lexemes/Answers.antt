use Rattle.std.proofs.Common.{◌≡◌, ◌∙◌, ◌+◌, ◌-◌, ◌++◌, ◌∷◌, [], ◌<◌, ◌≤◌, ℕ, List, false, suc, length, drop, get_or, Some, None, sym, ap, subst, arith, append_assoc, rules, IfSome}
use Rattle.std.proofs.lemmas.List.{append-nil, drop_all, drop_more}
use Rattle.config_lex.specs.Bytes.{skip}
use Rattle.config_lex.specs.Lexemes.{found, lexed, lexemes, placed, token_at, after_token}
use Rattle.config_lex.specs.declared.context.Context.{Context}
use Rattle.config_lex.specs.declared.token.Token.{Token}
use Rattle.config_lex.specs.declared.token.Token.TheVariants as t
use Rattle.config_lex.specs.declared.token.Lexeme.{Lexeme}
use Rattle.config_lex.proofs.Lexing.{lexed_next, lexed_end, lexed_zero}
use Rattle.config_lex.proofs.lexer.lexemes.Goals as goal
use Rattle.config_lex.proofs.lexer.lexemes.Goals.{else-loop-turns-test, then-loop-turns-test+then-place-bytes, then-loop-turns-test+else-place-bytes+in_ok-token+in_default+in_ok-push}

-- one more token
turned : (n at place len : ℕ) (x : Context) (y : Token) (text : List ℕ) (front all : List Lexeme) → place ≡ at + skip false (drop at text) → place < length text → token_at x (drop place text) ≡ Some (y, len)
    → front ++ lexed (suc n) at x text ≡ all → (front ++ placed place y ∷ []) ++ lexed n (place + len) (after_token x y) text ≡ all
turned n at place len x y text front all e l h g =
    let k = at + skip false (drop at text) in
    let d = drop_more text place 0 l in
    let s : drop k text ≡ get_or text place 0 ∷ drop (place + 1) text = ap (λ i. drop i text) (sym e) ∙ d in
    append_assoc front (placed place y ∷ []) (lexed n (place + len) (after_token x y) text)
    ∙ ap (λ i. front ++ placed i y ∷ lexed n (i + len) (after_token x y) text) e
    ∙ ap (λ o. front ++ found k x o (λ i z. lexed n i z text)) (sym (ap (token_at x) (sym d) ∙ h))
    ∙ ap (λ z. front ++ z) (sym (lexed_next n at (get_or text place 0) x text (drop (place + 1) text) s)) ∙ g

-- bytes that begin no token
stopped : (n at place : ℕ) (x : Context) (text : List ℕ) (front all : List Lexeme) → place ≡ at + skip false (drop at text) → place < length text → token_at x (drop place text) ≡ None
    → front ++ lexed (suc n) at x text ≡ all → front ++ placed place t.Unreadable ∷ [] ≡ all
stopped n at place x text front all e l h g =
    let k = at + skip false (drop at text) in
    let d = drop_more text place 0 l in
    let s : drop k text ≡ get_or text place 0 ∷ drop (place + 1) text = ap (λ i. drop i text) (sym e) ∙ d in
    ap (λ i. front ++ placed i t.Unreadable ∷ []) e ∙ ap (λ o. front ++ found k x o (λ i z. lexed n i z text)) (sym (ap (token_at x) (sym d) ∙ h))
    ∙ ap (λ z. front ++ z) (sym (lexed_next n at (get_or text place 0) x text (drop (place + 1) text) s)) ∙ g

pub overflow_add-at : goal.overflow_add-at
overflow_add-at c =
    let w = subst (λ o. IfSome o (λ p. c.skip-place.result + p.1 ≤ length c.args.text.now)) c.in-Some.is c.in_ok-token.ensures.within in
    let l : c.skip-place.result + c.in-Some.len ≤ length c.as_bytes-bytes.result.now = omega (arith, w, ap length c.as_bytes-bytes.ensures.value) in search (l, rules)

pub loop-turns-preserved : goal.loop-turns-preserved
loop-turns-preserved c =
    let text = c.args.text.now in
    let at = c.loop-turns.at in
    let place = c.skip-place.result in
    let same : c.as_bytes-bytes.result.now ≡ text = c.as_bytes-bytes.ensures.value in
    let e : place ≡ at + skip false (drop at text) = c.skip-place.ensures.end ∙ ap (λ z. at + skip false (drop at z)) same in
    let l : place < length text = omega (arith, c.skip-place.ensures.within, c.if-place-bytes.false, ap length same) in
    let w = subst (λ o. IfSome o (λ p. place + p.1 ≤ length text)) c.in-Some.is c.in_ok-token.ensures.within in
    let n = c.loop-turns.turns - 1 in
    let turn : suc n ≡ c.loop-turns.turns = omega (arith, c.loop-turns-test.true) in
    record {
      within = w;
      same = ap (λ z. z ++ lexed n (place + c.in-Some.len) c.after_token-context.result text) c.in_ok-push-2.ensures.ok
          ∙ ap (λ x. (c.loop-turns.found ++ placed place c.in-Some.token ∷ []) ++ lexed n (place + c.in-Some.len) x text) c.after_token-context.ensures
          ∙ turned n at place c.in-Some.len c.loop-turns.context c.in-Some.token text c.loop-turns.found (lexemes text) e l (sym c.in_ok-token.ensures.gives ∙ c.in-Some.is)
          (ap (λ m. c.loop-turns.found ++ lexed m at c.loop-turns.context text) turn ∙ c.loop-turns.invariant.same);
    }

pub returns : goal.returns
returns c =
    let text = c.args.text.now in
    let at = c.loop-turns.at in
    let x = c.loop-turns.context in
    let front = c.loop-turns.found in
    let same : c.as_bytes-bytes.result.now ≡ text = c.as_bytes-bytes.ensures.value in
    elim c.loop-turns-test.branch [
      | else-loop-turns-test w ↦
          let z : c.loop-turns.turns ≡ 0 = omega (arith, w.loop-turns-test.false) in
          w.found-is ∙ sym (append-nil front) ∙ ap (λ r. front ++ r) (sym (ap (λ m. lexed m at x text) z ∙ lexed_zero at x text)) ∙ c.loop-turns.invariant.same
      | then-loop-turns-test+then-place-bytes w ↦
          let e : w.skip-place.result ≡ at + skip false (drop at text) = w.skip-place.ensures.end ∙ ap (λ z. at + skip false (drop at z)) same in
          let d : drop (at + skip false (drop at text)) text ≡ [] = drop_all (at + skip false (drop at text)) text (omega (arith, e, w.if-place-bytes.true, ap length same)) in
          w.found-is ∙ sym (append-nil front) ∙ ap (λ r. front ++ r) (sym (lexed_end c.loop-turns.turns at x text d)) ∙ c.loop-turns.invariant.same
      | then-loop-turns-test+else-place-bytes+in_ok-token+in_default+in_ok-push w ↦
          let place = w.skip-place.result in
          let e : place ≡ at + skip false (drop at text) = w.skip-place.ensures.end ∙ ap (λ z. at + skip false (drop at z)) same in
          let l : place < length text = omega (arith, w.skip-place.ensures.within, w.if-place-bytes.false, ap length same) in
          let n = c.loop-turns.turns - 1 in
          let turn : suc n ≡ c.loop-turns.turns = omega (arith, w.loop-turns-test.true) in
          w.found-is ∙ w.in_ok-push.ensures.ok
          ∙ stopped n at place x text front (lexemes text) e l (sym w.in_ok-token.ensures.gives ∙ w.in_default.is) (ap (λ m. front ++ lexed m at x text) turn ∙ c.loop-turns.invariant.same)
    ]
