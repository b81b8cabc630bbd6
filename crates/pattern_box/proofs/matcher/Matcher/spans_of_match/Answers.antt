use Rattle.std.proofs.Common.{◌≡◌, ℕ, ◌+◌, arith, ◌∷◌, ◌++◌, [], true, List, length, Option, All, IfSome, sym, ap₂, ◌∙◌, subst}
use Rattle.std.proofs.lemmas.List.Elements.{All-push}
use Rattle.std.proofs.lemmas.List.FromFn.{map-range_with_len_more}
use Rattle.regex.specs.Search.{group_span, LiesWithin}
use Rattle.regex.specs.Utf8.{CutsCleanly}
use Rattle.pattern_box.proofs.matcher.Matcher.spans_of_match.Goals as goal

pub loop-index-preserved : goal.loop-index-preserved
loop-index-preserved c =
    let text = c.args.text.now in
    let whole = c.args.whole in
    let index = c.loop-index.index in
    let inv = c.loop-index.invariant in
    let of : ℕ → Option (ℕ × ℕ) = group_span true text whole c.args.self.now.cells.items in
    let Fits : Option (ℕ × ℕ) → Type 0 = λ span. IfSome span (λ s. LiesWithin 0 (length text) s × CutsCleanly text s) in
    let value : c.group.result ≡ of index = c.group.ensures.value
    ∙ ap₂ (λ h cells. group_span true h whole cells index) c.as_bytes.ensures.value c.as_slice.ensures.value in
    let from_zero : 0 + index ≡ index = omega arith in
    let pushed = c.in_ok-push.ensures.ok in (
      pushed ∙ ap₂ (λ (xs : List (Option (ℕ × ℕ))) x. xs ++ x ∷ []) inv.0 value ∙ sym (map-range_with_len_more of 0 index index from_zero),
      subst (All Fits) (sym pushed) (All-push Fits c.loop-index.spans c.group.result inv.1
          (subst (λ h. IfSome c.group.result (λ s. LiesWithin 0 (length h) s × CutsCleanly h s)) c.as_bytes.ensures.value
          c.group.ensures.inside)),
    )
