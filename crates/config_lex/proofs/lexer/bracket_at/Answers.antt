use Rattle.std.proofs.Common.{◌≡◌, ◌∙◌, ◌+◌, ◌&&◌, not, ℕ, List, Some, true, false, Bool, if◌then◌else◌, ap, sym, drop, drop-drop, length, [], arith, subst, IfOk}
use Rattle.config_lex.specs.Bytes.{skip}
use Rattle.config_lex.specs.Lexemes.{Found, begins_literals, bracket_at, selector_of, parts_at}
use Rattle.config_lex.specs.declared.token.Token.TheVariants as t
use Rattle.config_lex.proofs.lexer.bracket_at.Goals as goal
use Rattle.config_lex.proofs.lexer.bracket_at.Goals.{else-operand-via-then-operand+else-not-begins_literals, else-operand-via-else-operand}

same_rest : (text : List ℕ) (at end : ℕ) → end ≡ at + 1 + skip false (drop (at + 1) text) → drop (1 + skip false (drop 1 (drop at text))) (drop at text) ≡ drop end text
same_rest text at end h =
    let k = skip false (drop 1 (drop at text)) in
    let e : k ≡ skip false (drop (at + 1) text) = ap (skip false) (drop-drop 1 at text) in
    drop-drop (1 + k) at text ∙ ap (λ i. drop i text) (omega (arith, e, h))

abbrev choose : (operand literals : Bool) → List ℕ → Found
choose operand literals s = if operand && not literals then selector_of (parts_at (length s) [] s) else Some (t.OpenBracket, 1)

pub returns-then-not-begins_literals-clause-gives : goal.returns-then-not-begins_literals-clause-gives
returns-then-not-begins_literals-clause-gives c =
    let text = c.args.text.now in
    let s = drop c.args.at text in
    let bytes = c.as_bytes-bytes.result.now in
    let same : bytes ≡ text = c.as_bytes-bytes.ensures.value in
    let e = same_rest text c.args.at c.skip.result (c.skip.ensures.end ∙ ap (λ z. c.args.at + 1 + skip false (drop (c.args.at + 1) z)) same) in
    let b : begins_literals (drop (1 + skip false (drop 1 s)) s) ≡ false = ap begins_literals (e ∙ ap (drop c.skip.result) (sym same)) ∙ sym c.begins_literals.ensures ∙ c.if-not-begins_literals.true in
    let g : bracket_at c.args.operand s ≡ selector_of (parts_at (length s) [] s) = ap (λ o. choose o (begins_literals (drop (1 + skip false (drop 1 s)) s)) s) c.if-operand.true ∙ ap (λ l. choose true l s) b in
    subst (λ y. IfOk c.selector_at.result (λ found. found ≡ y)) (sym g) c.selector_at.ensures.gives

pub returns-else-operand-clause-gives : goal.returns-else-operand-clause-gives
returns-else-operand-clause-gives c =
    let text = c.args.text.now in
    let s = drop c.args.at text in
    let bytes = c.as_bytes-bytes.result.now in
    let same : bytes ≡ text = c.as_bytes-bytes.ensures.value in
    elim c.else-operand.branch [
      | else-operand-via-then-operand+else-not-begins_literals w ↦
          let e = same_rest text c.args.at w.skip.result (w.skip.ensures.end ∙ ap (λ z. c.args.at + 1 + skip false (drop (c.args.at + 1) z)) same) in
          let b : begins_literals (drop (1 + skip false (drop 1 s)) s) ≡ true = ap begins_literals (e ∙ ap (drop w.skip.result) (sym same)) ∙ sym w.begins_literals.ensures ∙ w.if-not-begins_literals.false in
          sym (ap (λ o. choose o (begins_literals (drop (1 + skip false (drop 1 s)) s)) s) w.if-operand.true ∙ ap (λ l. choose true l s) b)
      | else-operand-via-else-operand w ↦ sym (ap (λ o. choose o (begins_literals (drop (1 + skip false (drop 1 s)) s)) s) w.if-operand.false)
    ]
