-- Lists: places in them and what changes there.
use Rattle.std.proofs.Common.{◌≡◌, ℕ, zero, suc, ◌+◌, List, [], ◌∷◌, ◌++◌, take, Some, sym, ap, ◌∙◌, arith, slice_get, rules}

pub take_more : {X : Type 0} (xs : List X) (i : ℕ) (a : X) → slice_get xs i ≡ Some a → take (suc i) xs ≡ take i xs ++ a ∷ []
take_more [] i a h = absurd (search (h, rules))
take_more (x ∷ xs) zero a h = let e : x ≡ a = search (h, rules) in ap (λ y. y ∷ []) e
take_more (x ∷ xs) (suc i) a h = ap (λ l. x ∷ l) (take_more xs i a h)

pub same_step : {X : Type 0} (xs ys : List (List ℕ × X)) (i : ℕ) (a b : List ℕ × X) → take i xs ≡ take i ys → slice_get xs i ≡ Some a → slice_get ys i ≡ Some b → a.0 ≡ b.0 → a.1 ≡ b.1 → take (i + 1) xs ≡ take (i + 1) ys
same_step xs ys i a b t h k e f =
    let n : i + 1 ≡ suc i = omega arith in
    let p : a ≡ b = λ j. (e j, f j) in
    rw n (take_more xs i a h ∙ ap (λ l. l ++ a ∷ []) t ∙ ap (λ x. take i ys ++ x ∷ []) p ∙ sym (take_more ys i b k))
