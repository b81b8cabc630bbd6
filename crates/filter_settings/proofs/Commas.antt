-- A text without its commas is that of the pieces between them.
use Rattle.std.proofs.Common.{◌≡◌, ℕ, ◌<◌, List, [], ◌∷◌, ◌++◌, refl, sym, ap, ◌∙◌, arith, Bool, true, false, None, Some, if◌then◌else◌, ◌==◌, not, append-nil, length}
use Rattle.std.specs.Prelude.{flat_map, ◌&&◌}
use Rattle.std.specs.List.{onto_first}
use Rattle.std.specs.Str.Pattern.{FindsText, SplitsAroundMatch}
use Rattle.filter_settings.specs.Convert.{is_no_comma, without_commas}
use Rattle.filter_settings.specs.Pieces.{pieces}
use Rattle.filter_settings.proofs.Cuts.{piece_more, piece_end}

comma : List ℕ
comma = 44 ∷ []

abbrev joined : List (List ℕ) → List ℕ
joined ps = flat_map (λ p. p) ps

onto : (b : ℕ) (ps : List (List ℕ)) → joined (onto_first b ps) ≡ b ∷ joined ps
onto b [] = refl
onto b (p ∷ ps) = refl

between : (s : List ℕ) → joined (pieces (44 ∷ []) s) ≡ without_commas s
between [] = refl
between (b ∷ bs) = by (b == 44) (44 == b) (eq_turned b) (between bs)
  where
    eq_turned : (b : ℕ) → (44 == b) ≡ (b == 44)
    eq_turned b = grind arith

    by : (t u : Bool) → u ≡ t → joined (pieces (44 ∷ []) bs) ≡ without_commas bs → joined (if u && true then [] ∷ pieces (44 ∷ []) bs else onto_first b (pieces (44 ∷ []) bs)) ≡ (if not t then b ∷ without_commas bs else without_commas bs)
    by true true e rest = rest
    by false false e rest = onto b (pieces (44 ∷ []) bs) ∙ ap (λ s. b ∷ s) rest
    by true false e rest = absurd (cc)
    by false true e rest = absurd (cc)

pub comma_more : (s front back : List ℕ) → SplitsAroundMatch (FindsText (44 ∷ [])) s front back → without_commas s ≡ front ++ without_commas back
comma_more s front back cut =
    sym (between s) ∙ ap joined (piece_more (44 ∷ []) s front back (omega arith) cut) ∙ ap (λ x. front ++ x) (between back)

pub comma_end : (s : List ℕ) → FindsText (44 ∷ []) s None → without_commas s ≡ s
comma_end s lacks = sym (between s) ∙ ap joined (piece_end (44 ∷ []) s (omega arith) lacks) ∙ append-nil s
