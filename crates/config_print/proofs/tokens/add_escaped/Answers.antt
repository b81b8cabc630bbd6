use Rattle.std.proofs.Common.{◌≡◌, ◌∙◌, ◌++◌, ◌-◌, ◌<◌, [], ◌∷◌, length, take, drop, get_or, sym, ap, subst, refl, arith, string_bytes}
use Rattle.std.specs.Str.{IsCharBoundary}
use Rattle.std.proofs.lemmas.Str.{IsCharBoundary-before_ascii, IsCharBoundary-start}
use Rattle.config_print.proofs.Escaping.{at_slash, at_other}
use Rattle.config_print.proofs.tokens.add_escaped.Goals as goal
use Rattle.config_print.proofs.tokens.add_escaped.Goals.{then-bytes-at-eq47+in_ok-push_str+in_ok-push_str-2, else-bytes-at-eq47}
use Rattle.config_print.specs.Tokens as spec

pub loop-at-init : goal.loop-at-init
loop-at-init c = record {
  behind = omega arith;
  boundary = IsCharBoundary-start c.args.text.now c.utf8.text;
  same = refl;
}

pub loop-at-preserved : goal.loop-at-preserved
loop-at-preserved c =
    let text = c.args.text.now in
    let at = c.loop-at.at in
    let from = c.loop-at.from in
    let inv = c.loop-at.invariant in
    let same : c.as_bytes-bytes.result.now ≡ text = c.as_bytes-bytes.ensures.value in
    let l : at < length text = omega (arith, ap length same, c.loop-at-test.true) in
    let done = string_bytes c.loop-at.to in
    let whole = string_bytes c.args.to.now ++ spec.escaped text in
    elim c.if-bytes-at-eq47.branch [
      | then-bytes-at-eq47+in_ok-push_str+in_ok-push_str-2 w ↦
          let slash : get_or text at 0 ≡ 47 = ap (λ z. get_or z at 0) (sym same) ∙ w.if-bytes-at-eq47.true in
          let made : string_bytes c.if-bytes-at-eq47.to ≡ (done ++ take (at - from) (drop from text)) ++ 92 ∷ [] =
          ap string_bytes w.to-is ∙ w.in_ok-push_str-2.ensures.bytes ∙ ap (λ z. z ++ 92 ∷ []) (w.in_ok-push_str.ensures.bytes ∙ ap (λ z. done ++ z) w.range.ensures.value) in
          record {
            behind = omega (arith, w.from-is);
            boundary = subst (λ k. IsCharBoundary text k) (sym w.from-is) (IsCharBoundary-before_ascii text at l (omega (arith, slash)));
            same = at_slash text done whole (string_bytes c.if-bytes-at-eq47.to) from at c.if-bytes-at-eq47.from l slash made w.from-is inv.same;
          }
      | else-bytes-at-eq47 w ↦
          record {
            behind = omega (arith, inv.behind, w.from-is);
            boundary = subst (λ k. IsCharBoundary text k) (sym w.from-is) inv.boundary;
            same = at_other text done whole (string_bytes c.if-bytes-at-eq47.to) from at c.if-bytes-at-eq47.from inv.behind l (λ h. w.if-bytes-at-eq47.false (ap (λ z. get_or z at 0) same ∙ h)) (ap string_bytes w.to-is) w.from-is inv.same;
          }
    ]
