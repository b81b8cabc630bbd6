-- Sums that are counted one by one.
use Rattle.std.proofs.Common.{◌≡◌, ℕ, ◌+◌, ◌<◌, ◌≤◌, List, [], ◌∷◌, ◌++◌, append_assoc, length, drop, get_or, map, refl, sym, ap, ◌∙◌, arith}
use Rattle.std.proofs.lemmas.List.{map-append}
use Rattle.std.proofs.lemmas.List.Sums.{sum_by-cons}
use Rattle.std.specs.List.{sum_by}
use Rattle.event_text.proofs.Going.{front, behind_end}

module _ {A : Type 0} (f : A → ℕ) (xs : List A) (i count : ℕ) (so_far : count + sum_by f (drop i xs) ≡ sum_by f xs) where
  pub sum_more : (x : A) (n new : ℕ) → i < length xs → x ≡ get_or xs i x → n ≡ f x → new ≡ count + n → new + sum_by f (drop (i + 1) xs) ≡ sum_by f xs
  sum_more x n new below is here added =
      let whole : sum_by f (drop i xs) ≡ f x + sum_by f (drop (i + 1) xs) = ap (sum_by f) (front xs i x below is) ∙ sum_by-cons f x (drop (i + 1) xs) in
      omega (arith, so_far, whole, here, added)

  pub sum_end : length xs ≤ i → count ≡ sum_by f xs
  sum_end end =
      let none : sum_by f (drop i xs) ≡ 0 = ap (sum_by f) (behind_end xs i end) in
      omega (arith, so_far, none)

pub ruleset counting = (sum_more, sum_end)

pub sum_mapped : {A B : Type 0} (see : A → B) (f : B → ℕ) (xs : List A) → sum_by (λ x. f (see x)) xs ≡ sum_by f (map see xs)
sum_mapped see f [] = refl
sum_mapped see f (x ∷ xs) = sum_by-cons (λ y. f (see y)) x xs ∙ ap (λ n. f (see x) + n) (sum_mapped see f xs) ∙ sym (sum_by-cons f (see x) (map see xs))

-- one more of a list whose images stand in front of those that are left
pub mapped_next : {A B : Type 0} (f : A → B) (xs new : List A) (x : A) (rest all left : List B) → new ≡ xs ++ x ∷ [] → left ≡ f x ∷ rest → map f xs ++ left ≡ all → map f new ++ rest ≡ all
mapped_next f xs new x rest all left added is so_far =
    ap (λ ys. map f ys ++ rest) added ∙ ap (λ ys. ys ++ rest) (map-append f xs (x ∷ [])) ∙ append_assoc (map f xs) (f x ∷ []) rest
    ∙ ap (λ ys. map f xs ++ ys) (sym is) ∙ so_far
