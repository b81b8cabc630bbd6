-- A list of which the elements from one on were changed, one after another, the last first.
use Rattle.std.proofs.lemmas.List.{drop_more, length-take-le}
use Rattle.std.proofs.Math.Seq.{set-append_seam}
use Rattle.std.proofs.Common.{◌≡◌, ◌<◌, ◌≤◌, ℕ, zero, suc, ◌+◌, List, [], ◌∷◌, ◌++◌, length, take, drop, get_or, refl, sym, ap, ◌∙◌, arith, append_assoc, slice_set}

pub drop_end : {A : Type 0} (xs : List A) → drop (length xs) xs ≡ []
drop_end [] = refl
drop_end (x ∷ xs) = drop_end xs

at_seam : {A : Type 0} (xs ys : List A) (y d : A) → get_or (xs ++ y ∷ ys) (length xs) d ≡ y
at_seam [] ys y d = refl
at_seam (x ∷ xs) ys y d = at_seam xs ys y d

take_one : {A : Type 0} (xs : List A) (n : ℕ) (d : A) → n < length xs → take (suc n) xs ≡ take n xs ++ get_or xs n d ∷ []
take_one [] n d less = absurd (omega (arith, less))
take_one (x ∷ xs) zero d less = refl
take_one (x ∷ xs) (suc n) d less = ap (λ ys. x ∷ ys) (take_one xs n d (omega (arith, less)))

-- the element that is changed next
module _ {A : Type 0} (old now tail : List A) (n : ℕ) (is : now ≡ take (suc n) old ++ tail) (within : suc n ≤ length old) (x : A) (found : x ≡ get_or now n x) where
  abbrev z : A
  z = get_or old n x

  front : now ≡ take n old ++ z ∷ tail
  front = is ∙ ap (λ xs. xs ++ tail) (take_one old n x within) ∙ append_assoc (take n old) (z ∷ []) tail

  size : length (take n old) ≡ n
  size = length-take-le n old (omega (arith, within))

  pub is_old : x ≡ get_or old n x
  is_old = found ∙ ap (λ xs. get_or xs n x) front ∙ ap (λ i. get_or (take n old ++ z ∷ tail) i x) (sym size) ∙ at_seam (take n old) tail z x

  pub taken : take (suc n) old ≡ take n old ++ x ∷ []
  taken = take_one old n x within ∙ ap (λ y. take n old ++ y ∷ []) (sym is_old)

  pub dropped : drop n old ≡ x ∷ drop (suc n) old
  dropped =
      let more : n + 1 ≡ suc n = omega arith in
      drop_more old n x within ∙ ap (λ y. y ∷ drop (n + 1) old) (sym is_old) ∙ ap (λ m. x ∷ drop m old) more

  pub changed : (y : A) → slice_set now n y ≡ take n old ++ y ∷ tail
  changed y = ap (λ xs. slice_set xs n y) front ∙ ap (λ i. slice_set (take n old ++ z ∷ tail) i y) (sym size) ∙ set-append_seam (take n old) z tail y
