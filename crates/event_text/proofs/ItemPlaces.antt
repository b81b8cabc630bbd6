-- The places that a part names in a list before and after an item is set or added.
use Rattle.std.proofs.Common.{◌≡◌, ℕ, zero, suc, ◌-◌, ◌≤◌, ◌==◌, List, [], ◌∷◌, ◌++◌, length, Bool, true, false, if◌then◌else◌, Option, Some, None, option_map, option_and_then, refl, sym, ap, ◌∙◌, rules, arith, slice_get, slice_set, length-append}
use Rattle.std.proofs.lemmas.Option.{slice_get_past, same_Some}
use Rattle.std.proofs.lemmas.List.{length-set}
use Rattle.event_tree.proofs.Tens.{at_most_some, at_most_within}
use Rattle.event_tree.specs.Paths.{digits, at_most, list_place}
use Rattle.event_text.specs.PathLaws.{is_from_end}

pub get_set : {X : Type 0} (xs : List X) (i : ℕ) (x y : X) → slice_get xs i ≡ Some x → slice_get (slice_set xs i y) i ≡ Some y
get_set [] i x y h = absurd (search (h, rules))
get_set (z ∷ xs) zero x y h = refl
get_set (z ∷ xs) (suc i) x y h = get_set xs i x y h

push_length : {X : Type 0} (xs : List X) (y : X) → length (xs ++ y ∷ []) ≡ suc (length xs)
push_length xs y = length-append xs (y ∷ []) ∙ omega arith

pub get_pushed : {X : Type 0} (xs : List X) (y : X) → slice_get (xs ++ y ∷ []) (length xs) ≡ Some y
get_pushed [] y = refl
get_pushed (z ∷ xs) y = get_pushed xs y

pub none_past : {X : Type 0} (xs : List X) (i : ℕ) → slice_get xs i ≡ None → length xs ≤ i
none_past [] i h = omega arith
none_past (x ∷ xs) zero h = absurd (search (h, rules))
none_past (x ∷ xs) (suc i) h = let le : length xs ≤ i = none_past xs i h in omega (arith, le)

front_more : (n : ℕ) (o : Option ℕ) (i : ℕ) → at_most n o ≡ Some i → at_most (suc n) o ≡ Some i
front_more n None i h = absurd (search (h, rules))
front_more n (Some k) i h = let m = at_most_some n k i h in at_most_within (suc n) k (omega (arith, m.1)) ∙ ap Some (sym m.0)

back_more : (n : ℕ) (o : Option ℕ) (i : ℕ) → option_map (λ k. n - k) (at_most n o) ≡ Some i → n ≤ i → option_map (λ k. suc n - k) (at_most (suc n) o) ≡ Some (suc n)
back_more n None i h le = absurd (search (h, rules))
back_more n (Some k) i h le = cases (at_most n (Some k)) refl h
  where
    cases : (o : Option ℕ) → at_most n (Some k) ≡ o → option_map (λ k. n - k) o ≡ Some i → option_map (λ k. suc n - k) (at_most (suc n) (Some k)) ≡ Some (suc n)
    cases None e g = absurd (search (g, rules))
    cases (Some j) e g =
        let m = at_most_some n k j e in
        let left : n - j ≡ i = same_Some (n - j) i g in
        let first : suc n - k ≡ suc n = omega (arith, m.0, m.1, left, le) in
        ap (option_map (λ k. suc n - k)) (at_most_within (suc n) k (omega (arith, m.1))) ∙ ap Some first

-- A part names the place of an item that it adds: it still does where it counts from the front, and names the next place where it counts from the end.
pub placed : (p : List ℕ) (n i : ℕ) → list_place p n ≡ Some i → n ≤ i → list_place p (suc n) ≡ Some (if is_from_end p then suc n else n)
placed [] n i h le = absurd (search (h, rules))
placed (b ∷ bs) n i h le = cases (b == 45) refl
  where
    cases : (c : Bool) → (b == 45) ≡ c → list_place (b ∷ bs) (suc n) ≡ Some (if is_from_end (b ∷ bs) then suc n else n)
    cases true e = rw e (back_more n (digits bs) i (rw e at h) le)
    cases false e = rw e (front_more n (digits (b ∷ bs)) i (rw e at h) ∙ ap Some (front_end n (digits (b ∷ bs)) i (rw e at h) le))
      where
        front_end : (n : ℕ) (o : Option ℕ) (i : ℕ) → at_most n o ≡ Some i → n ≤ i → i ≡ n
        front_end n None i h le = absurd (search (h, rules))
        front_end n (Some k) i h le = let m = at_most_some n k i h in omega (arith, m.0, m.1, le)

-- what a part leads to once an item was added at the place that it named
pub step_pushed : {X : Type 0} (p : List ℕ) (xs : List X) (i : ℕ) (y : X) → list_place p (length xs) ≡ Some i → slice_get xs i ≡ None
    → option_and_then (λ j. slice_get (xs ++ y ∷ []) j) (list_place p (length (xs ++ y ∷ []))) ≡ (if is_from_end p then None else Some y)
step_pushed p xs i y at none = ap (λ n. option_and_then (λ j. slice_get (xs ++ y ∷ []) j) (list_place p n)) (push_length xs y)
    ∙ ap (option_and_then (λ j. slice_get (xs ++ y ∷ []) j)) (placed p (length xs) i at (none_past xs i none)) ∙ cases (is_from_end p)
  where
    cases : (b : Bool) → slice_get (xs ++ y ∷ []) (if b then suc (length xs) else length xs) ≡ (if b then None else Some y)
    cases true = slice_get_past (xs ++ y ∷ []) (suc (length xs)) (omega (arith, push_length xs y))
    cases false = get_pushed xs y

-- what a part leads to once the item that it names was set
pub step_set : {X : Type 0} (p : List ℕ) (xs : List X) (i : ℕ) (x y : X) → list_place p (length xs) ≡ Some i → slice_get xs i ≡ Some x
    → option_and_then (λ j. slice_get (slice_set xs i y) j) (list_place p (length (slice_set xs i y))) ≡ Some y
step_set p xs i x y at is = ap (λ n. option_and_then (λ j. slice_get (slice_set xs i y) j) (list_place p n)) (length-set xs i y)
    ∙ ap (option_and_then (λ j. slice_get (slice_set xs i y) j)) at ∙ get_set xs i x y is

-- the same before
pub step_is : {X : Type 0} (p : List ℕ) (xs : List X) (i : ℕ) (o : Option X) → list_place p (length xs) ≡ Some i → slice_get xs i ≡ o → option_and_then (λ j. slice_get xs j) (list_place p (length xs)) ≡ o
step_is p xs i o at is = ap (option_and_then (λ j. slice_get xs j)) at ∙ is
