-- What holds of each element of a list: of one of them, where one is put in its place, and of those that are left.
use Rattle.std.specs.Prelude.{slice_get, slice_set, remove}
use Rattle.std.proofs.Common.{◌≡◌, ◌<◌, ℕ, zero, suc, List, [], ◌∷◌, ◌++◌, map, length, get_or, Some, None, refl, sym, subst, arith}
use Rattle.std.specs.List.{AllByRecursion}
use Rattle.std.proofs.lemmas.Option.{get_or_from_slice_get}

module _ {X : Type 0} (P : X → Type 0) where
  -- of two lists behind each other, and of each of them
  pub each_joined : (xs ys : List X) → AllByRecursion P xs → AllByRecursion P ys → AllByRecursion P (xs ++ ys)
  each_joined [] ys one other = other
  each_joined (x ∷ xs) ys one other = (one.0, each_joined xs ys one.1 other)

  pub each_front : (xs ys : List X) → AllByRecursion P (xs ++ ys) → AllByRecursion P xs
  each_front [] ys all = tt
  each_front (x ∷ xs) ys all = (all.0, each_front xs ys all.1)

  pub each_last : (xs ys : List X) → AllByRecursion P (xs ++ ys) → AllByRecursion P ys
  each_last [] ys all = all
  each_last (x ∷ xs) ys all = each_last xs ys all.1

  -- of one between others, and of the others
  pub middle_of : (xs ys : List X) (x : X) → AllByRecursion P (xs ++ x ∷ ys) → P x
  middle_of [] ys x all = all.0
  middle_of (y ∷ xs) ys x all = middle_of xs ys x all.1

  pub each_but : (xs ys : List X) (x : X) → AllByRecursion P (xs ++ x ∷ ys) → AllByRecursion P (xs ++ ys)
  each_but [] ys x all = all.1
  each_but (y ∷ xs) ys x all = (all.0, each_but xs ys x all.1)

  pub each_between : (xs ys : List X) (x : X) → AllByRecursion P (xs ++ ys) → P x → AllByRecursion P (xs ++ x ∷ ys)
  each_between [] ys x all here = (here, all)
  each_between (y ∷ xs) ys x all here = (all.0, each_between xs ys x all.1 here)

  pub one_of : (xs : List X) (at : ℕ) (d : X) → at < length xs → AllByRecursion P xs → P (get_or xs at d)
  one_of [] at d lt all = absurd (omega (arith, lt))
  one_of (x ∷ xs) zero d lt all = all.0
  one_of (x ∷ xs) (suc at) d lt all = one_of xs at d (omega (arith, lt)) all.1

  -- the element at a place
  pub this_of : (xs : List X) (at : ℕ) (x : X) → at < length xs → x ≡ get_or xs at x → AllByRecursion P xs → P x
  this_of xs at x lt is all = subst P (sym is) (one_of xs at x lt all)

  pub first_of : (xs : List X) (x : X) → slice_get xs 0 ≡ Some x → AllByRecursion P xs → P x
  first_of [] x is all = absurd cc
  first_of (y ∷ xs) x is all = subst P (get_or_from_slice_get (y ∷ xs) 0 x y is) all.0

  pub each_with : (xs : List X) (at : ℕ) (x : X) → P x → AllByRecursion P xs → AllByRecursion P (slice_set xs at x)
  each_with [] at x here all = tt
  each_with (y ∷ xs) zero x here all = (here, all.1)
  each_with (y ∷ xs) (suc at) x here all = (all.0, each_with xs at x here all.1)

  pub each_behind : (xs : List X) → AllByRecursion P xs → AllByRecursion P (remove xs 0)
  each_behind [] all = tt
  each_behind (x ∷ xs) all = all.1

-- a list without a first element
pub none_first : {X : Type 0} (xs : List X) → slice_get xs 0 ≡ None → xs ≡ []
none_first [] is = refl
none_first (x ∷ xs) is = absurd cc

pub each_then : {X : Type 0} (P Q : X → Type 0) → ((x : X) → P x → Q x) → (xs : List X) → AllByRecursion P xs → AllByRecursion Q xs
each_then P Q makes [] each = tt
each_then P Q makes (x ∷ xs) each = (makes x each.0, each_then P Q makes xs each.1)

pub each_mapped : {X Y : Type 0} (f : X → Y) (P : Y → Type 0) (xs : List X) → AllByRecursion P (map f xs) → AllByRecursion (λ x. P (f x)) xs
each_mapped f P [] each = tt
each_mapped f P (x ∷ xs) each = (each.0, each_mapped f P xs each.1)

pub both_of : {X : Type 0} (P Q : X → Type 0) (xs : List X) → AllByRecursion P xs → AllByRecursion Q xs → AllByRecursion (λ x. P x × Q x) xs
both_of P Q [] one other = tt
both_of P Q (x ∷ xs) one other = ((one.0, other.0), both_of P Q xs one.1 other.1)
