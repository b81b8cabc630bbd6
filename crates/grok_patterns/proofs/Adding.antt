-- One piece more, for the invariant of a loop that says what the rest of the pieces still adds.
use Rattle.std.proofs.Common.{◌≡◌, ℕ, zero, suc, ◌+◌, ◌-◌, arith, ◌<◌, ◌≤◌, List, length, drop, get_or, Option, Some, None, sym, ap, ◌∙◌}
use Rattle.std.specs.Prelude.{option_and_then, codes}
use Rattle.event_text.proofs.Going.{front, behind_end}
use Rattle.grok_patterns.specs.Drafts.{Written}
use Rattle.grok_patterns.specs.Expansions.{all_added, added, closed, begun, write}
use Rattle.grok_patterns.specs.declared.expansion.ExpansionRules.{ExpansionRules}
use Rattle.grok_patterns.specs.declared.piece.Field.{Field}
use Rattle.grok_patterns.specs.declared.piece.PatternPiece.{PatternPiece}
use Rattle.grok_patterns.specs.declared.piece.PatternPiece.TheVariants as piece

module _ {X : Type 0} (f : X → Written → Option Written) (xs : List X) (i : ℕ) where
  pub added_more : (x : X) (o o' o0 : Written) → i < length xs → x ≡ get_or xs i x → all_added f (drop i xs) o ≡ all_added f xs o0 → Some o' ≡ f x o → all_added f (drop (i + 1) xs) o' ≡ all_added f xs o0
  added_more x o o' o0 below is so_far here = ap (option_and_then (all_added f (drop (i + 1) xs))) here ∙ ap (λ ys. all_added f ys o) (sym (front xs i x below is)) ∙ so_far

  pub added_fails : (x : X) (o o0 : Written) → i < length xs → x ≡ get_or xs i x → all_added f (drop i xs) o ≡ all_added f xs o0 → None ≡ f x o → None ≡ all_added f xs o0
  added_fails x o o0 below is so_far here = ap (option_and_then (all_added f (drop (i + 1) xs))) here ∙ ap (λ ys. all_added f ys o) (sym (front xs i x below is)) ∙ so_far

  pub added_end : (o o0 : Written) → length xs ≤ i → all_added f (drop i xs) o ≡ all_added f xs o0 → Some o ≡ all_added f xs o0
  added_end o o0 end so_far = ap (λ ys. all_added f ys o) (sym (behind_end xs i end)) ∙ so_far

-- a reference at a depth of one or more, whose pieces were added, and closed
pub reference_added : (r : ExpansionRules) (name : List ℕ) (f : Option Field) (o : Written) (n : ℕ) (o1 o2 : Written) (inner : List PatternPiece) → 0 < n
    → Some (inner, o1) ≡ begun r name f o → Some o2 ≡ all_added (added r (n - 1)) inner o1 → added r n (piece.Reference name f) o ≡ write (codes ")") o2
reference_added r name f o zero o1 o2 inner some begins goes = absurd (omega arith)
reference_added r name f o (suc k) o1 o2 inner some begins goes =
    let e : suc k - 1 ≡ k = omega arith in
    ap (option_and_then (closed (all_added (added r k)))) (sym begins)
    ∙ ap (option_and_then (write (codes ")"))) (ap (λ j. all_added (added r j) inner o1) (sym e) ∙ sym goes)

pub ruleset adding = (added_more, added_fails, added_end)
