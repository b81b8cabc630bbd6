-- What a list contains.
use Rattle.std.proofs.Common.{◌≡◌, ◌⊎◌, ⊎_elim, inl, inr, ℕ, zero, suc, ◌+◌, ◌<◌, ◌==◌, Bool, true, false, List, [], ◌∷◌, ◌++◌, length, map, filter, drop, get_or, refl, sym, ◌∙◌, ap, subst, arith, append_assoc}
use Rattle.std.proofs.lemmas.Bool.{cond-true, cond-false, cases_Bool, false≢true}
use Rattle.std.proofs.lemmas.Bool.Decides.{Decides-by_or, Decides-eqb}
use Rattle.std.proofs.lemmas.List.Elements.{All-contains, All-contains_itself, All-filter, All-map, All-weaker, Decides-contains, filter_passes}
use Rattle.std.specs.Bool.{Decides}
use Rattle.std.specs.List.{list_any}
use Rattle.std.specs.Prelude.{Contains}

-- a search for a number tells whether the list contains it
pub any_decides : (xs : List ℕ) (x : ℕ) → Decides (list_any (λ b. b == x) xs) (Contains xs x)
any_decides xs x = Decides-contains xs x (list_any (λ b. b == x) xs) (Decides-by_or (λ b. b == x) (λ b. b ≡ x) (list_any (λ b. b == x)) (λ b. Decides-eqb b x) refl (λ b bs. refl) xs)

pub is_first : {X : Type 0} (y : X) (ys : List X) → Contains (y ∷ ys) y
is_first y ys = (0, omega arith, refl)

pub is_later : {X : Type 0} (y : X) (ys : List X) (x : X) → Contains ys x → Contains (y ∷ ys) x
is_later y ys x c = (suc c.0, omega (arith, c.1), c.2)

pub first_or_later : {X : Type 0} (y : X) (ys : List X) (x : X) → Contains (y ∷ ys) x → (y ≡ x) ⊎ Contains ys x
first_or_later y ys x c = at_place c.0 c.1 c.2
  where
    at_place : (k : ℕ) → k < length (y ∷ ys) → get_or (y ∷ ys) k x ≡ x → (y ≡ x) ⊎ Contains ys x
    at_place zero within is = inl is
    at_place (suc k) within is = inr (k, omega (arith, within), is)

-- ---- filters

pub filter_has : {X : Type 0} (p : X → Bool) (xs : List X) (x : X) → Contains xs x → p x ≡ true → Contains (filter p xs) x
filter_has p [] x c passes = absurd (omega (arith, c.1))
filter_has p (y ∷ ys) x c passes = elim (cases_Bool (p y)) [
  | inl is ↦
      subst (λ l. Contains l x) (sym (cond-true (p y) (y ∷ filter p ys) (filter p ys) is))
      (⊎_elim (λ (same : y ≡ x). subst (Contains (y ∷ filter p ys)) same (is_first y (filter p ys))) (λ later. is_later y (filter p ys) x (filter_has p ys x later passes)) (first_or_later y ys x c))
  | inr is ↦
      subst (λ l. Contains l x) (sym (cond-false (p y) (y ∷ filter p ys) (filter p ys) is))
      (⊎_elim (λ (same : y ≡ x). absurd (false≢true (sym is ∙ ap p same ∙ passes))) (λ later. filter_has p ys x later passes) (first_or_later y ys x c))
]

pub has_filtered : {X : Type 0} (p : X → Bool) (xs : List X) (x : X) → Contains (filter p xs) x → Contains xs x × (p x ≡ true)
has_filtered p xs x c = (All-contains (Contains xs) (filter p xs) x (All-filter p (Contains xs) xs (All-contains_itself xs)) c, All-contains (λ y. p y ≡ true) (filter p xs) x (filter_passes p xs) c)

-- ---- maps

pub map_has : {X Y : Type 0} (f : X → Y) (xs : List X) (x : X) → Contains xs x → Contains (map f xs) (f x)
map_has f [] x c = absurd (omega (arith, c.1))
map_has f (y ∷ ys) x c = ⊎_elim (λ (same : y ≡ x). subst (λ z. Contains (f y ∷ map f ys) (f z)) same (is_first (f y) (map f ys))) (λ later. is_later (f y) (map f ys) (f x) (map_has f ys x later)) (first_or_later y ys x c)

-- one of a list of which f makes this
abbrev pub Made : {X Y : Type 0} → (X → Y) → List X → Y → Type 0
Made {X} f xs y = (x : X) × Contains xs x × (f x ≡ y)

pub has_mapped : {X Y : Type 0} (f : X → Y) (xs : List X) (y : Y) → Contains (map f xs) y → Made f xs y
has_mapped f xs y c = All-contains (Made f xs) (map f xs) y (All-map (Made f xs) f xs (All-weaker (Contains xs) (λ x. Made f xs (f x)) (λ x has. (x, has, refl)) xs (All-contains_itself xs))) c

-- ---- what is made of those that pass, one by one

module _ {X Y : Type 0} (f : X → Y) (p : X → Bool) (xs : List X) (i : ℕ) (x : X) (made : List Y) (split : drop i xs ≡ x ∷ drop (i + 1) xs) where
  pub one_made : p x ≡ true → made ++ map f (filter p (drop i xs)) ≡ (made ++ f x ∷ []) ++ map f (filter p (drop (i + 1) xs))
  one_made passes =
      ap (λ l. made ++ map f (filter p l)) split ∙ ap (λ l. made ++ map f l) (cond-true (p x) (x ∷ filter p (drop (i + 1) xs)) (filter p (drop (i + 1) xs)) passes)
      ∙ sym (append_assoc made (f x ∷ []) (map f (filter p (drop (i + 1) xs))))

  pub none_made : p x ≡ false → made ++ map f (filter p (drop i xs)) ≡ made ++ map f (filter p (drop (i + 1) xs))
  none_made stays =
      ap (λ l. made ++ map f (filter p l)) split ∙ ap (λ l. made ++ map f l) (cond-false (p x) (x ∷ filter p (drop (i + 1) xs)) (filter p (drop (i + 1) xs)) stays)
