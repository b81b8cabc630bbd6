use Rattle.std.proofs.Common.{◌≡◌, ◌∙◌, ◌++◌, ◌+◌, ◌-◌, ◌<◌, ◌≤◌, [], length, take, drop, get_or, sym, ap, subst, arith, string_bytes, append_assoc, length-drop, ℕ, Bool, true, false, ◌==◌, ◌&&◌, rules}
use Rattle.std.proofs.lemmas.Bool.Decides.{nat_tests}
use Rattle.std.proofs.lemmas.List.{append-nil, take_all}
use Rattle.std.specs.Str.{IsCharBoundary}
use Rattle.std.proofs.lemmas.Str.{IsCharBoundary-after_ascii, IsCharBoundary-start}
use Rattle.config_lex.specs.Bytes.{unescaped, begins_with}
use Rattle.config_lex.proofs.Scans.{unescaped_left, unescaped_kept, unescaped_ends, part_more}
use Rattle.config_lex.proofs.lexer.unescaped.Goals as goal
use Rattle.config_lex.proofs.lexer.unescaped.Goals.{then-is_escape+in_ok-push_str, else-is_escape}

nothing : (a b : ℕ) → a ≡ b → a - b ≡ 0
nothing a b h = omega (arith, h)

first_is : (b : ℕ) (x : Bool) → (b == 92 && x) ≡ true → b ≡ 92
first_is b true h = grind (arith, nat_tests)
first_is b false h = absurd (and_not (b == 92) h)
  where
    and_not : (y : Bool) → (y && false) ≡ true → ⊥
    and_not true g = search (g, rules)
    and_not false g = search (g, rules)

pub loop-at-init : goal.loop-at-init
loop-at-init c = record {
  behind = omega arith;
  boundary = IsCharBoundary-start c.args.text.now c.utf8.text;
  same = ap (λ l. l ++ unescaped c.args.text.now) c.new-made.ensures.bytes;
}

pub loop-at-preserved : goal.loop-at-preserved
loop-at-preserved c =
    let text = c.args.text.now in
    let bytes = c.as_bytes-bytes.result.now in
    let at = c.loop-at.at in
    let inv = c.loop-at.invariant in
    let same : bytes ≡ text = c.as_bytes-bytes.ensures.value in
    let l : at < length text = omega (arith, ap length same, c.loop-at-test.true) in
    let test : (get_or bytes at 0 == 92 && begins_with 47 (drop (at + 1) bytes)) ≡ (get_or text at 0 == 92 && begins_with 47 (drop (at + 1) text)) = ap (λ z. get_or z at 0 == 92 && begins_with 47 (drop (at + 1) z)) same in
    elim c.if-is_escape.branch [
      | then-is_escape+in_ok-push_str w ↦
          let t = sym test ∙ sym c.is_escape.ensures ∙ w.if-is_escape.true in
          let e : at + 1 ≡ c.if-is_escape.from = sym w.from-is in
          let some : get_or text at 0 < 128 = omega (arith, first_is (get_or text at 0) (begins_with 47 (drop (at + 1) text)) t) in
          let made : string_bytes c.if-is_escape.made ≡ string_bytes c.loop-at.made ++ take (at - c.loop-at.from) (drop c.loop-at.from text) =
          ap string_bytes w.made-is ∙ w.in_ok-push_str.ensures.bytes ∙ ap (λ z. string_bytes c.loop-at.made ++ z) w.range.ensures.value in
          let none : take (at + 1 - c.if-is_escape.from) (drop c.if-is_escape.from text) ≡ [] = ap (λ k. take k (drop c.if-is_escape.from text)) (nothing (at + 1) c.if-is_escape.from e) in
          record {
            behind = omega (arith, e);
            boundary = subst (λ k. IsCharBoundary text k) e (IsCharBoundary-after_ascii text at c.utf8.text l some);
            same = ap (λ z. z ++ (take (at + 1 - c.if-is_escape.from) (drop c.if-is_escape.from text) ++ unescaped (drop (at + 1) text))) made
                ∙ ap (λ z. (string_bytes c.loop-at.made ++ take (at - c.loop-at.from) (drop c.loop-at.from text)) ++ (z ++ unescaped (drop (at + 1) text))) none
                ∙ append_assoc (string_bytes c.loop-at.made) (take (at - c.loop-at.from) (drop c.loop-at.from text)) (unescaped (drop (at + 1) text))
                ∙ ap (λ z. string_bytes c.loop-at.made ++ (take (at - c.loop-at.from) (drop c.loop-at.from text) ++ z)) (sym (unescaped_left text at l t)) ∙ inv.same;
          }
      | else-is_escape w ↦
          let t = sym test ∙ sym c.is_escape.ensures ∙ w.if-is_escape.false in
          let f = c.loop-at.from in
          let whole : string_bytes c.loop-at.made ++ (take (at + 1 - f) (drop f text) ++ unescaped (drop (at + 1) text)) ≡ unescaped text =
          ap (λ z. string_bytes c.loop-at.made ++ z) (sym (part_more text f at inv.behind l (unescaped (drop (at + 1) text))) ∙ ap (λ z. take (at - f) (drop f text) ++ z) (sym (unescaped_kept text at l t))) ∙ inv.same in
          record {
            behind = omega (arith, inv.behind, w.from-is);
            boundary = subst (λ k. IsCharBoundary text k) (sym w.from-is) inv.boundary;
            same = ap (λ z. string_bytes z ++ (take (at + 1 - c.if-is_escape.from) (drop c.if-is_escape.from text) ++ unescaped (drop (at + 1) text))) w.made-is
                ∙ ap (λ k. string_bytes c.loop-at.made ++ (take (at + 1 - k) (drop k text) ++ unescaped (drop (at + 1) text))) w.from-is ∙ whole;
          }
    ]

pub returns : goal.returns
returns c =
    let text = c.args.text.now in
    let at = c.loop-at.at in
    let f = c.loop-at.from in
    let l : length text ≤ at = omega (arith, ap length c.as_bytes-bytes.ensures.value, c.loop-at-test.false) in
    let n : length (drop f text) ≤ at - f = omega (arith, l, length-drop f text) in
    c.from_string.ensures ∙ c.in_ok-push_str-2.ensures.bytes ∙ ap (λ z. string_bytes c.loop-at.made ++ z) (c.range_from.ensures.value ∙ sym (append-nil (drop f text)))
    ∙ ap (λ z. string_bytes c.loop-at.made ++ (z ++ [])) (sym (take_all (at - f) (drop f text) n))
    ∙ ap (λ z. string_bytes c.loop-at.made ++ (take (at - f) (drop f text) ++ z)) (sym (unescaped_ends text at l)) ∙ c.loop-at.invariant.same
