-- One step of what goes on over a list, for the invariant of a loop that says what the rest of the list still does.
use Rattle.std.proofs.lemmas.List.{drop_more}
use Rattle.std.proofs.lemmas.Grind.{common_steps}
use Rattle.std.proofs.Common.{◌≡◌, ℕ, ◌+◌, ◌<◌, ◌≤◌, List, [], ◌∷◌, ◌++◌, length, drop, get_or, refl, sym, ap, ◌∙◌, arith, append_assoc, append-nil, Option, Some, None, option_map, Bool, true, false, map}
use Rattle.std.specs.Prelude.{◌||◌}
use Rattle.std.specs.Option.{option_and_then}
use Rattle.std.specs.List.{list_any}
use Rattle.event_tree.specs.Events.{Ev}
use Rattle.event_text.specs.Options.{each_done, each_in}

pub front : {A : Type 0} (xs : List A) (i : ℕ) (x : A) → i < length xs → x ≡ get_or xs i x → drop i xs ≡ x ∷ drop (i + 1) xs
front xs i x below is = drop_more xs i x below ∙ ap (λ y. y ∷ drop (i + 1) xs) (sym is)

pub behind_end : {A : Type 0} (xs : List A) (i : ℕ) → length xs ≤ i → drop i xs ≡ []
behind_end xs i end = grind (arith, common_steps)

-- one change after another
pub done_more : {X : Type 0} (f : X → Ev → Ev) (xs : List X) (i : ℕ) (x : X) (e e' e0 : Ev) → i < length xs → x ≡ get_or xs i x → each_done f (drop i xs) e ≡ each_done f xs e0 → e' ≡ f x e → each_done f (drop (i + 1) xs) e' ≡ each_done f xs e0
done_more f xs i x e e' e0 below is so_far here = ap (each_done f (drop (i + 1) xs)) here ∙ ap (λ ys. each_done f ys e) (sym (front xs i x below is)) ∙ so_far

pub done_end : {X : Type 0} (f : X → Ev → Ev) (xs : List X) (i : ℕ) (e e0 : Ev) → length xs ≤ i → each_done f (drop i xs) e ≡ each_done f xs e0 → e ≡ each_done f xs e0
done_end f xs i e e0 end so_far = ap (λ ys. each_done f ys e) (sym (behind_end xs i end)) ∙ so_far

-- each as f says, where it says something of each
abbrev pub with_front : {B : Type 0} → List B → Option (List B) → Option (List B)
with_front ys found = option_map (λ zs. ys ++ zs) found

pub front_more : {B : Type 0} (ys : List B) (y : B) (found : Option (List B)) → with_front (ys ++ y ∷ []) found ≡ with_front ys (option_map (λ zs. y ∷ zs) found)
front_more ys y None = refl
front_more ys y (Some zs) = ap Some (append_assoc ys (y ∷ []) zs)

pub each_more : {A B : Type 0} (f : A → Option B) (xs : List A) (i : ℕ) (x : A) (y : B) (ys : List B) → i < length xs → x ≡ get_or xs i x → with_front ys (each_in f (drop i xs)) ≡ each_in f xs → Some y ≡ f x → with_front (ys ++ y ∷ []) (each_in f (drop (i + 1) xs)) ≡ each_in f xs
each_more f xs i x y ys below is so_far here =
    front_more ys y (each_in f (drop (i + 1) xs))
    ∙ ap (λ o. with_front ys (option_and_then (λ z. option_map (λ zs. z ∷ zs) (each_in f (drop (i + 1) xs))) o)) here
    ∙ ap (λ zs. with_front ys (each_in f zs)) (sym (front xs i x below is)) ∙ so_far

pub each_none : {A B : Type 0} (f : A → Option B) (xs : List A) (i : ℕ) (x : A) (ys : List B) → i < length xs → x ≡ get_or xs i x → with_front ys (each_in f (drop i xs)) ≡ each_in f xs → None ≡ f x → None ≡ each_in f xs
each_none f xs i x ys below is so_far here =
    ap (λ o. with_front ys (option_and_then (λ z. option_map (λ zs. z ∷ zs) (each_in f (drop (i + 1) xs))) o)) here
    ∙ ap (λ zs. with_front ys (each_in f zs)) (sym (front xs i x below is)) ∙ so_far

pub each_end : {A B : Type 0} (f : A → Option B) (xs : List A) (i : ℕ) (ys : List B) → length xs ≤ i → with_front ys (each_in f (drop i xs)) ≡ each_in f xs → Some ys ≡ each_in f xs
each_end f xs i ys end so_far = ap Some (sym (append-nil ys)) ∙ ap (λ zs. with_front ys (each_in f zs)) (sym (behind_end xs i end)) ∙ so_far

-- a function of each
pub map_more : {A B : Type 0} (f : A → B) (xs : List A) (i : ℕ) (x : A) (y : B) (ys : List B) → i < length xs → x ≡ get_or xs i x → ys ++ map f (drop i xs) ≡ map f xs → y ≡ f x → (ys ++ y ∷ []) ++ map f (drop (i + 1) xs) ≡ map f xs
map_more f xs i x y ys below is so_far here =
    append_assoc ys (y ∷ []) (map f (drop (i + 1) xs)) ∙ ap (λ z. ys ++ z ∷ map f (drop (i + 1) xs)) here
    ∙ ap (λ zs. ys ++ map f zs) (sym (front xs i x below is)) ∙ so_far

pub map_end : {A B : Type 0} (f : A → B) (xs : List A) (i : ℕ) (ys : List B) → length xs ≤ i → ys ++ map f (drop i xs) ≡ map f xs → ys ≡ map f xs
map_end f xs i ys end so_far = sym (append-nil ys) ∙ ap (λ zs. ys ++ map f zs) (sym (behind_end xs i end)) ∙ so_far

-- whether one passes
pub any_found : {A : Type 0} (test : A → Bool) (xs : List A) (i : ℕ) (x : A) → i < length xs → x ≡ get_or xs i x → list_any test (drop i xs) ≡ list_any test xs → true ≡ test x → true ≡ list_any test xs
any_found test xs i x below is so_far here = ap (λ b. b || list_any test (drop (i + 1) xs)) here ∙ ap (list_any test) (sym (front xs i x below is)) ∙ so_far

pub any_more : {A : Type 0} (test : A → Bool) (xs : List A) (i : ℕ) (x : A) → i < length xs → x ≡ get_or xs i x → list_any test (drop i xs) ≡ list_any test xs → false ≡ test x → list_any test (drop (i + 1) xs) ≡ list_any test xs
any_more test xs i x below is so_far here = ap (λ b. b || list_any test (drop (i + 1) xs)) here ∙ ap (list_any test) (sym (front xs i x below is)) ∙ so_far

pub ruleset going = (done_more, done_end, each_more, each_none, each_end, map_more, map_end, any_found, any_more)
