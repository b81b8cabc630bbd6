use Rattle.std.proofs.Common.{◌≡◌, ◌∙◌, ◌+◌, ◌&&◌, suc, false, true, sym, ap, drop, drop-drop, arith, Bool, refl}
use Rattle.event_tree.specs.NumberTexts.{is_digit}
use Rattle.config_lex.specs.Bytes.{passing, whole_length, point_length, begins_with, begins_digit}
use Rattle.config_lex.proofs.Scans.{point_some, point_none}
use Rattle.config_lex.proofs.bytes.number_end.Goals as goal
use Rattle.config_lex.proofs.bytes.number_end.Goals.{else-begins_with-via-then-begins_with+else-begins_digit, else-begins_with-via-else-begins_with}

and_false : (b : Bool) → (b && false) ≡ false
and_false true = refl
and_false false = refl

pub returns-then-begins_digit-clause-end : goal.returns-then-begins_digit-clause-end
returns-then-begins_digit-clause-end c =
    let b = c.args.bytes.now in
    let s = drop c.args.at b in
    let i = c.whole_end-whole.result in
    let same : drop (whole_length s) s ≡ drop i b = drop-drop (whole_length s) c.args.at b ∙ ap (λ k. drop k b) (sym c.whole_end-whole.ensures.end) in
    let p : point_length (drop (whole_length s) s) ≡ suc (passing is_digit (drop (i + 1) b)) =
    ap point_length same ∙ point_some b i (sym c.begins_with.ensures ∙ c.if-begins_with.true) (sym c.begins_digit.ensures ∙ c.if-begins_digit.true) in
    omega (arith, p, c.whole_end-whole.ensures.end, c.digits_end.ensures.end)

pub returns-else-begins_with-clause-end : goal.returns-else-begins_with-clause-end
returns-else-begins_with-clause-end c =
    let b = c.args.bytes.now in
    let s = drop c.args.at b in
    let i = c.whole_end-whole.result in
    let same : drop (whole_length s) s ≡ drop i b = drop-drop (whole_length s) c.args.at b ∙ ap (λ k. drop k b) (sym c.whole_end-whole.ensures.end) in
    let p : (begins_with 46 (drop i b) && begins_digit (drop (i + 1) b)) ≡ false = elim c.else-begins_with.branch [
      | else-begins_with-via-then-begins_with+else-begins_digit w ↦ ap (λ x. begins_with 46 (drop i b) && x) (sym w.begins_digit.ensures ∙ w.if-begins_digit.false) ∙ and_false (begins_with 46 (drop i b))
      | else-begins_with-via-else-begins_with w ↦ ap (λ x. x && begins_digit (drop (i + 1) b)) (sym c.begins_with.ensures ∙ w.if-begins_with.false)
    ] in
    let q : point_length (drop (whole_length s) s) ≡ 0 = ap point_length same ∙ point_none b i p in
    omega (arith, q, c.whole_end-whole.ensures.end)
