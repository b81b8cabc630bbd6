-- The files whose names were found so far.
use Rattle.std.proofs.Common.{◌≡◌, ⊎_elim, ℕ, ◌+◌, ◌<◌, List, [], ◌∷◌, ◌++◌, length, take, get_or, sym, ◌∙◌, ap, subst}
use Rattle.std.specs.Prelude.{Contains}
use Rattle.std.proofs.lemmas.List.{take_more}
use Rattle.std.proofs.lemmas.List.Elements.{Contains-push_cases}

-- the files of one name more are found
pub one_found : {X : Type 0} (parts : List (List ℕ)) (text : ℕ → List ℕ) (file : ℕ → X) (Is : ℕ → Type 0) (i : ℕ) (x : List ℕ) (old new : List X) → i < length parts → x ≡ get_or parts i x
    → ((n : ℕ) → Contains old (file n) → Contains new (file n)) → ((n : ℕ) → Is n → x ≡ text n → Contains new (file n))
    → ((n : ℕ) → Is n → Contains (take i parts) (text n) → Contains old (file n)) → (n : ℕ) → Is n → Contains (take (i + 1) parts) (text n) → Contains new (file n)
one_found parts text file Is i x old new within is kept here so_far n wanted among = ⊎_elim
    (λ earlier. kept n (so_far n wanted earlier))
    (λ same. here n wanted same)
    (Contains-push_cases (take i parts) x (text n) (subst (λ l. Contains l (text n)) (take_more parts i x within ∙ ap (λ (y : List ℕ). take i parts ++ y ∷ []) (sym is)) among))
