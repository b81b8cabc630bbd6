-- The text from a place on is its tokens as they are written.
use Rattle.std.proofs.Common.{◌≡◌, ◌≤◌, ◌⊎◌, inl, inr, ℕ, zero, suc, ◌+◌, List, [], ◌∷◌, ◌++◌, length, take, drop, Some, None, false, refl, ap, sym, subst, ◌∙◌, length-append, arith}
use Rattle.std.proofs.Math.Seq.{drop-append_seam}
use Rattle.std.proofs.lemmas.List.{append-nil, drop_all, drop-drop, length-drop, length-take-le, take-append-drop}
use Rattle.config_lex.specs.Bytes.{skip}
use Rattle.config_lex.specs.Laws.{IsGap, IsLaid, nothing, gap, ends, stops, goes_on}
use Rattle.config_lex.specs.Lexemes.{Found, after_token, placed, token_at, found, next, lexed}
use Rattle.config_lex.specs.declared.context.Context.{Context}
use Rattle.config_lex.specs.declared.token.Lexeme.{Lexeme}
use Rattle.config_lex.proofs.Gaps.{Split, Ended, gap_in_front}
use Rattle.config_lex.proofs.Writing.{Found_there, found_there}

-- what is laid from each later place on, in fewer turns
abbrev Later : ℕ → List ℕ → Type 0
Later n text = (at : ℕ) (x : Context) → length (drop at text) ≤ n → IsLaid at x (drop at text) (lexed n at x text)

module _ (n at : ℕ) (x : Context) (text between : List ℕ) (is_gap : IsGap between) (later : Later n text) where
  -- a token in front of what is behind the gap
  token_in_front : (b : ℕ) (s : List ℕ) (o : Found) → token_at x (b ∷ s) ≡ o → Found_there (b ∷ s) o → drop (at + length between) text ≡ b ∷ s → length (b ∷ s) ≤ suc n
      → IsLaid at x (between ++ b ∷ s) (found (at + length between) x o (λ place y. lexed n place y text))
  token_in_front b s None e h is l = stops between b s is_gap e
  token_in_front b s (Some (y, k)) e h is l =
      let place = at + length between in
      let written = take k (b ∷ s) in
      let long : length written ≡ k = length-take-le k (b ∷ s) h.within in
      let rest : drop (place + k) text ≡ drop k (b ∷ s) = sym (drop-drop k place text) ∙ ap (drop k) is in
      let fewer : length (drop (place + k) text) ≤ n = omega (arith, ap length rest, length-drop k (b ∷ s), h.some, l) in
      let tail : IsLaid (place + length written) (after_token x y) (drop k (b ∷ s)) (lexed n (place + k) (after_token x y) text) =
      subst (λ p. IsLaid p (after_token x y) (drop k (b ∷ s)) (lexed n (place + k) (after_token x y) text)) (ap (λ j. place + j) (sym long))
      (subst (λ r. IsLaid (place + k) (after_token x y) r (lexed n (place + k) (after_token x y) text)) rest (later (place + k) (after_token x y) fewer)) in
      subst (λ r. IsLaid at x (between ++ r) (placed place y ∷ lexed n (place + k) (after_token x y) text)) (take-append-drop k (b ∷ s)) (goes_on between written (drop k (b ∷ s)) y is_gap h.writes tail)

  behind_gap : (rest : List ℕ) → drop (at + length between) text ≡ rest → length rest ≤ suc n → IsLaid at x (between ++ rest) (next (at + length between) x rest (λ place y. lexed n place y text))
  behind_gap [] is l = subst (λ s. IsLaid at x s []) (sym (append-nil between)) (ends (gap is_gap))
  behind_gap (b ∷ s) is l = token_in_front b s (token_at x (b ∷ s)) refl (found_there x (b ∷ s)) is l

pub laid : (n at : ℕ) (x : Context) (text : List ℕ) → length (drop at text) ≤ n → IsLaid at x (drop at text) (lexed n at x text)
unfolding lexed
laid zero at x text l = by (drop at text) l
  where
    by : (s : List ℕ) → length s ≤ 0 → IsLaid at x s []
    by [] h = ends (gap nothing)
    by (b ∷ s) h = absurd (omega (arith, h))
laid (suc n) at x text l = by (gap_in_front (drop at text)) (λ a y h. laid n a y text h)
  where
    turn : ℕ → List Lexeme
    turn k = next (at + k) x (drop (at + k) text) (λ place y. lexed n place y text)

    by : Split (drop at text) ⊎ Ended (drop at text) → Later n text → IsLaid at x (drop at text) (next (at + skip false (drop at text)) x (drop (at + skip false (drop at text)) text) (λ place y. lexed n place y text))
    by (inl p) later =
        let is : drop (at + length p.between) text ≡ p.rest = sym (drop-drop (length p.between) at text) ∙ ap (drop (length p.between)) p.whole ∙ drop-append_seam p.between p.rest in
        let short : length p.rest ≤ suc n = omega (arith, l, ap length p.whole, length-append p.between p.rest) in
        subst (λ k. IsLaid at x (drop at text) (next (at + k) x (drop (at + k) text) (λ place y. lexed n place y text))) (sym p.skipped)
        (subst (λ s. IsLaid at x s (next (at + length p.between) x (drop (at + length p.between) text) (λ place y. lexed n place y text))) (sym p.whole)
        (subst (λ r. IsLaid at x (p.between ++ p.rest) (next (at + length p.between) x r (λ place y. lexed n place y text))) (sym is) (behind_gap n at x text p.between p.is_gap later p.rest is short)))
    by (inr e) later =
        let none : drop (at + length (drop at text)) text ≡ [] = sym (drop-drop (length (drop at text)) at text) ∙ drop_all (length (drop at text)) (drop at text) (omega arith) in
        subst (λ k. IsLaid at x (drop at text) (next (at + k) x (drop (at + k) text) (λ place y. lexed n place y text))) (sym e.1)
        (subst (λ r. IsLaid at x (drop at text) (next (at + length (drop at text)) x r (λ place y. lexed n place y text))) (sym none) (ends e.0))
