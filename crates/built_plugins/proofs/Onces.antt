-- Each text once, one by one.
use Rattle.std.proofs.lemmas.List.Folds.{list_any-append}
use Rattle.std.proofs.lemmas.Slice.Eq.{bytes_eq-Decides}
use Rattle.std.proofs.Common.{◌≡◌, ℕ, List, [], ◌∷◌, ◌++◌, refl, sym, ap, ap₂, subst, ◌∙◌, append_assoc, append-nil, Bool, true, false, ◌&&◌, cond, rules}
use Rattle.std.specs.List.{filter, list_any}
use Rattle.std.specs.Prelude.{bytes_eq, not, ◌||◌}
use Rattle.event_flow.specs.Places.{once}

-- a text that is not among these
abbrev pub is_among : List (List ℕ) → List ℕ → Bool
is_among found s = list_any (λ one. bytes_eq one s) found

abbrev pub is_other : List (List ℕ) → List ℕ → Bool
is_other found s = not (is_among found s)

abbrev pub others : List (List ℕ) → List (List ℕ) → List (List ℕ)
others found ss = filter (is_other found) ss

-- two tests one after the other, as one
filter_both : (p q r : List ℕ → Bool) → ((x : List ℕ) → (q x && p x) ≡ r x) → (xs : List (List ℕ)) → filter p (filter q xs) ≡ filter r xs
filter_both p q r both [] = refl
filter_both p q r both (x ∷ xs) = by (q x) (both x) (filter_both p q r both xs)
  where
    by : (b : Bool) → (b && p x) ≡ r x → filter p (filter q xs) ≡ filter r xs → filter p (cond b (x ∷ filter q xs) (filter q xs)) ≡ cond (r x) (x ∷ filter r xs) (filter r xs)
    by true is rest = ap₂ (λ t ys. cond t (x ∷ ys) ys) is rest
    by false is rest = rest ∙ ap (λ t. cond t (x ∷ filter r xs) (filter r xs)) is

not_both : (a b : Bool) → (not b && not a) ≡ not (a || (b || false))
not_both true true = refl
not_both true false = refl
not_both false true = refl
not_both false false = refl

one_more : (found : List (List ℕ)) (s x : List ℕ) → (not (bytes_eq s x) && is_other found x) ≡ is_other (found ++ s ∷ []) x
one_more found s x = not_both (is_among found x) (bytes_eq s x) ∙ ap not (sym (list_any-append (λ one. bytes_eq one x) found (s ∷ [])))

-- a text that is among them is no other than they are
no_more : (found : List (List ℕ)) (s x : List ℕ) → is_among found s ≡ true → (not (bytes_eq s x) && is_other found x) ≡ is_other found x
no_more found s x is = by (bytes_eq s x) refl
  where
    by : (b : Bool) → bytes_eq s x ≡ b → (not b && is_other found x) ≡ is_other found x
    by true same =
        let e : s ≡ x = search (rules, bytes_eq-Decides) in
        ap not (sym (subst (λ y. is_among found y ≡ true) e is))
    by false same = refl

module _ (found left rest all : List (List ℕ)) (s : List ℕ) (is : left ≡ s ∷ rest) (so_far : found ++ others found (once left) ≡ once all) where
  whole : found ++ others found (s ∷ filter (λ x. not (bytes_eq s x)) (once rest)) ≡ once all
  whole = ap (λ xs. found ++ others found (once xs)) (sym is) ∙ so_far

  abbrev chosen : Bool → List (List ℕ)
  chosen b = cond (not b) (s ∷ others found (filter (λ x. not (bytes_eq s x)) (once rest))) (others found (filter (λ x. not (bytes_eq s x)) (once rest)))

  pub passed_over : true ≡ is_among found s → found ++ others found (once rest) ≡ once all
  passed_over among =
      ap (λ xs. found ++ xs) (sym (filter_both (is_other found) (λ x. not (bytes_eq s x)) (is_other found) (λ x. no_more found s x (sym among)) (once rest)))
      ∙ ap (λ b. found ++ chosen b) among ∙ whole

  pub put_behind : false ≡ is_among found s → (found ++ s ∷ []) ++ others (found ++ s ∷ []) (once rest) ≡ once all
  put_behind other =
      append_assoc found (s ∷ []) (others (found ++ s ∷ []) (once rest))
      ∙ ap (λ xs. found ++ s ∷ xs) (sym (filter_both (is_other found) (λ x. not (bytes_eq s x)) (is_other (found ++ s ∷ [])) (one_more found s) (once rest)))
      ∙ ap (λ b. found ++ chosen b) other ∙ whole

pub once_all : (found left all : List (List ℕ)) → left ≡ [] → found ++ others found (once left) ≡ once all → found ≡ once all
once_all found left all none so_far = sym (append-nil found) ∙ ap (λ xs. found ++ others found (once xs)) (sym none) ∙ so_far

none_other : (ss : List (List ℕ)) → others [] ss ≡ ss
none_other [] = refl
none_other (s ∷ ss) = ap (λ xs. s ∷ xs) (none_other ss)

pub once_starts : (found left all : List (List ℕ)) → found ≡ [] → left ≡ all → found ++ others found (once left) ≡ once all
once_starts found left all none is = ap (λ f. f ++ others f (once left)) none ∙ none_other (once left) ∙ ap once is
