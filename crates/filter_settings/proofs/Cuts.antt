-- The pieces of a text by the first place of the separator.
use Rattle.std.specs.Str.Pattern.{LacksTextAt, FindsText, SplitsAroundMatch}
use Rattle.std.proofs.Math.Seq.{drop-nil}
use Rattle.std.proofs.lemmas.Bool.Decides.{eqb_tells}
use Rattle.std.proofs.Common.{◌≡◌, ◌≢◌, ℕ, zero, suc, ◌+◌, ◌-◌, ◌<◌, ◌≤◌, inl, inr, List, [], ◌∷◌, ◌++◌, length, take, drop, true, false, refl, sym, ap, ◌∙◌, arith, rules, Bool, None, if◌then◌else◌}
use Rattle.std.specs.Prelude.{◌&&◌}
use Rattle.std.specs.List.{onto_first}
use Rattle.filter_settings.specs.Pieces.{begins, pieces_behind, pieces}

begins_there : (sep rest : List ℕ) → begins sep (sep ++ rest) ≡ true
begins_there [] rest = refl
begins_there (a ∷ ts) rest = elim (eqb_tells a a) [
  | inl same ↦ ap (λ t. t && begins ts (ts ++ rest)) same.0 ∙ begins_there ts rest
  | inr other ↦ absurd (other.1 refl)
]

begins_nowhere : (sep s : List ℕ) → ((rest : List ℕ) → s ≢ sep ++ rest) → begins sep s ≡ false
begins_nowhere [] s lacks = absurd (lacks s refl)
begins_nowhere (a ∷ ts) [] lacks = refl
begins_nowhere (a ∷ ts) (b ∷ bs) lacks = elim (eqb_tells a b) [
  | inl same ↦ ap (λ t. t && begins ts bs) same.0 ∙ begins_nowhere ts bs (λ rest e. lacks rest (ap (λ ys. b ∷ ys) e ∙ ap (λ x. x ∷ (ts ++ rest)) (sym same.1)))
  | inr other ↦ ap (λ t. t && begins ts bs) other.0
]

skipped : (sep : List ℕ) (n : ℕ) (s : List ℕ) → pieces_behind sep n s ≡ pieces sep (drop n s)
skipped sep zero s = refl
skipped sep (suc n) [] = refl
skipped sep (suc n) (b ∷ bs) = skipped sep n bs

abbrev if_begins : List ℕ → ℕ → List ℕ → Bool → List (List ℕ)
if_begins sep b bs t = if t then [] ∷ pieces_behind sep (length sep - 1) bs else onto_first b (pieces sep bs)

nil_no_cons : {P : Type 0} (xs : List ℕ) (a : ℕ) (rest : List ℕ) → xs ≡ [] → xs ≡ a ∷ rest → P
nil_no_cons xs a rest none is = let e : [] ≡ a ∷ rest = sym none ∙ is in absurd (search (e, rules))

-- the first place of the separator ends the first piece
pub first_piece : (a : ℕ) (ts s : List ℕ) (i : ℕ) → ((k : ℕ) → k < i → LacksTextAt (a ∷ ts) s k) → drop i s ≡ (a ∷ ts) ++ drop (i + length (a ∷ ts)) s → pieces (a ∷ ts) s ≡ take i s ∷ pieces (a ∷ ts) (drop (i + length (a ∷ ts)) s)
first_piece a ts [] i lacks is = nil_no_cons (drop i []) a (ts ++ drop (i + length (a ∷ ts)) []) (drop-nil i) is
first_piece a ts (b ∷ bs) zero lacks is =
    let one : suc (length ts) - 1 ≡ length ts = omega arith in
    let whole : suc (length ts) ≡ 0 + length (a ∷ ts) = omega arith in
    ap (if_begins (a ∷ ts) b bs) (ap (begins (a ∷ ts)) is ∙ begins_there (a ∷ ts) _)
    ∙ ap (λ n. [] ∷ pieces_behind (a ∷ ts) n bs) one ∙ ap (λ ps. [] ∷ ps) (skipped (a ∷ ts) (length ts) bs)
    ∙ ap (λ j. [] ∷ pieces (a ∷ ts) (drop j (b ∷ bs))) whole
first_piece a ts (b ∷ bs) (suc i) lacks is =
    let behind : suc i + length (a ∷ ts) ≡ suc (i + length (a ∷ ts)) = omega arith in
    ap (if_begins (a ∷ ts) b bs) (begins_nowhere (a ∷ ts) (b ∷ bs) (lacks 0 (omega arith)))
    ∙ ap (onto_first b) (first_piece a ts bs i (λ k below. lacks (suc k) (omega arith)) (is ∙ ap (λ j. (a ∷ ts) ++ drop j (b ∷ bs)) behind))
    ∙ ap (λ j. (b ∷ take i bs) ∷ pieces (a ∷ ts) (drop j (b ∷ bs))) (sym behind)

-- where it stands nowhere, the text is the one piece
pub only_piece : (a : ℕ) (ts s : List ℕ) → ((k : ℕ) → k ≤ length s → LacksTextAt (a ∷ ts) s k) → pieces (a ∷ ts) s ≡ s ∷ []
only_piece a ts [] lacks = refl
only_piece a ts (b ∷ bs) lacks =
    ap (if_begins (a ∷ ts) b bs) (begins_nowhere (a ∷ ts) (b ∷ bs) (lacks 0 (omega arith)))
    ∙ ap (onto_first b) (only_piece a ts bs (λ k below. lacks (suc k) (omega arith)))

-- the same of a separator that is not empty, as `split_once` finds it
pub piece_more : (sep s front back : List ℕ) → 0 < length sep → SplitsAroundMatch (FindsText sep) s front back → pieces sep s ≡ front ∷ pieces sep back
piece_more [] s front back some cut = absurd (omega arith)
piece_more (a ∷ ts) s front back some cut =
    let found = cut.2 in
    let ends : cut.1 ≡ cut.0 + length (a ∷ ts) = found.1.ends in
    first_piece a ts s cut.0 found.0 (found.1.split ∙ ap (λ j. (a ∷ ts) ++ drop j s) ends)
    ∙ ap (λ x. x ∷ pieces (a ∷ ts) (drop (cut.0 + length (a ∷ ts)) s)) (sym cut.3)
    ∙ ap (λ x. front ∷ pieces (a ∷ ts) x) (ap (λ j. drop j s) (sym ends) ∙ sym cut.4)

pub piece_end : (sep s : List ℕ) → 0 < length sep → FindsText sep s None → pieces sep s ≡ s ∷ []
piece_end [] s some lacks = absurd (omega arith)
piece_end (a ∷ ts) s some lacks = only_piece a ts s lacks
