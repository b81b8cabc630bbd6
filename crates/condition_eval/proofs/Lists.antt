-- Lists that are compared from the front.
use Rattle.std.proofs.Common.{◌≡◌, ℕ, ◌+◌, List, [], ◌∷◌, ◌++◌, take, slice_get, Some, sym, ap, ap₂, subst, ◌∙◌, add-one, rules}
use Rattle.event_tree.proofs.ListLemmas.{take_more}

pub take_step : {A : Type 0} (xs ys : List A) (i : ℕ) (a b : A) → slice_get xs i ≡ Some a → slice_get ys i ≡ Some b → take i xs ≡ take i ys → a ≡ b → take (i + 1) xs ≡ take (i + 1) ys
take_step xs ys i a b p q t e = subst (λ n. take n xs ≡ take n ys) (sym (add-one i)) (take_more xs i a p ∙ ap₂ (λ s c. s ++ c ∷ []) t e ∙ sym (take_more ys i b q))

-- what stands at a place of equal lists is equal
pub same_at : {A : Type 0} (xs ys : List A) (i : ℕ) (a b : A) → slice_get xs i ≡ Some a → slice_get ys i ≡ Some b → xs ≡ ys → a ≡ b
same_at xs ys i a b p q e = search (sym p ∙ ap (λ zs. slice_get zs i) e ∙ q, rules)
