-- Members of lists.
use Rattle.std.proofs.Common.{◌≡◌, ◌⊎◌, inl, inr, ⊎_elim, Bool, true, false, List, [], ◌∷◌, ◌++◌, sym, ap, ◌∙◌, subst}
use Rattle.std.proofs.lemmas.Bool.{cases_Bool}
use Rattle.std.specs.List.{filter}
use Rattle.std.specs.Prelude.{cond}
use Rattle.history_book.specs.Lists.{IsIn}

module _ {X : Type 0} (x : X) where
  pub in_front : (xs ys : List X) → IsIn x xs → IsIn x (xs ++ ys)
  in_front [] ys i = absurd i
  in_front (y ∷ xs) ys (inl e) = inl e
  in_front (y ∷ xs) ys (inr i) = inr (in_front xs ys i)

  pub in_behind : (xs ys : List X) → IsIn x ys → IsIn x (xs ++ ys)
  in_behind [] ys i = i
  in_behind (y ∷ xs) ys i = inr (in_behind xs ys i)

  pub in_either : (xs ys : List X) → IsIn x (xs ++ ys) → IsIn x xs ⊎ IsIn x ys
  in_either [] ys i = inr i
  in_either (y ∷ xs) ys (inl e) = inl (inl e)
  in_either (y ∷ xs) ys (inr i) = ⊎_elim (λ (j : IsIn x xs). inl (inr j)) (λ (j : IsIn x ys). inr j) (in_either xs ys i)

  module _ (p : X → Bool) where
    abbrev kept : X → List X → Bool → List X
    kept y ys b = cond b (y ∷ filter p ys) (filter p ys)

    pub filter_keeps : (xs : List X) → IsIn x xs → p x ≡ true → IsIn x (filter p xs)
    filter_keeps [] i passes = absurd i
    filter_keeps (y ∷ ys) (inl e) passes = subst (λ b. IsIn x (kept y ys b)) (sym (ap p (sym e) ∙ passes)) (inl e)
    filter_keeps (y ∷ ys) (inr i) passes =
        ⊎_elim (λ (yes : p y ≡ true). subst (λ b. IsIn x (kept y ys b)) (sym yes) (inr (filter_keeps ys i passes)))
        (λ (no : p y ≡ false). subst (λ b. IsIn x (kept y ys b)) (sym no) (filter_keeps ys i passes)) (cases_Bool (p y))

    pub filter_has : (xs : List X) → IsIn x (filter p xs) → IsIn x xs
    filter_has [] i = i
    filter_has (y ∷ ys) i =
        ⊎_elim (λ (yes : p y ≡ true). ⊎_elim (λ (e : x ≡ y). inl e) (λ (j : IsIn x (filter p ys)). inr (filter_has ys j)) (subst (λ b. IsIn x (kept y ys b)) yes i))
        (λ (no : p y ≡ false). inr (filter_has ys (subst (λ b. IsIn x (kept y ys b)) no i))) (cases_Bool (p y))

    pub filter_passes : (xs : List X) → IsIn x (filter p xs) → p x ≡ true
    filter_passes [] i = absurd i
    filter_passes (y ∷ ys) i =
        ⊎_elim (λ (yes : p y ≡ true). ⊎_elim (λ (e : x ≡ y). ap p e ∙ yes) (λ (j : IsIn x (filter p ys)). filter_passes ys j) (subst (λ b. IsIn x (kept y ys b)) yes i))
        (λ (no : p y ≡ false). filter_passes ys (subst (λ b. IsIn x (kept y ys b)) no i)) (cases_Bool (p y))
