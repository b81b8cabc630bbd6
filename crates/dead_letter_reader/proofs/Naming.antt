-- The path of a folder without its slash.
use Rattle.std.proofs.Common.{◌≡◌, ◌≢◌, ℕ, ◌==◌, List, [], ◌∷◌, ◌++◌, Option, Some, None, unwrap_or, refl, sym, ap, ◌∙◌, ne_eqb, Bor}
use Rattle.std.specs.Prelude.{MatchOption}
use Rattle.std.proofs.lemmas.Bool.{cond-false}
use Rattle.dead_letter_reader.specs.Names.{without_slash}

slashed : (xs : List ℕ) → without_slash (xs ++ 47 ∷ []) ≡ xs
slashed [] = refl
slashed (b ∷ []) = refl
slashed (b ∷ c ∷ xs) = ap (λ l. b ∷ l) (slashed (c ∷ xs))

unslashed : (xs : List ℕ) → ((front : List ℕ) → xs ≢ front ++ 47 ∷ []) → without_slash xs ≡ xs
unslashed [] not = refl
unslashed (b ∷ []) not = cond-false (b == 47) [] (b ∷ []) (ne_eqb b 47 (λ e. not [] (ap (λ x. x ∷ []) e)))
unslashed (b ∷ c ∷ xs) not = ap (λ l. b ∷ l) (unslashed (c ∷ xs) (λ front e. not (b ∷ front) (ap (λ l. b ∷ l) e)))

pub base_is : (folder : Bor (List ℕ)) (r : Option (Bor (List ℕ))) → MatchOption r ((front : List ℕ) → folder.now ≢ front ++ 47 ∷ []) (λ x. folder.now ≡ x.now ++ 47 ∷ []) → (unwrap_or r folder).now ≡ without_slash folder.now
base_is folder None not = sym (unslashed folder.now not)
base_is folder (Some x) is = sym (ap without_slash is ∙ slashed x.now)
