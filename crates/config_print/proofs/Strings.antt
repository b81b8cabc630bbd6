-- Strings and regexps: what was between two quotes stands between the quotes that are printed, too.
use Rattle.std.proofs.Common.{◌≡◌, ℕ, suc, ◌==◌, ◌&&◌, ◌||◌, ◌⊎◌, inl, inr, not, List, [], ◌∷◌, ◌++◌, length, take, Option, Some, None, option_map, Bool, true, false, if◌then◌else◌, refl, ap, sym, subst, ◌∙◌, arith}
use Rattle.std.proofs.lemmas.Bool.Decides.{nat_tests}
use Rattle.std.proofs.lemmas.Bool.{eqb-true, not-true, and_right, and_parts, or_parts}
use Rattle.config_lex.specs.Bytes.{closing, unescaped, begins_with}
use Rattle.config_print.specs.Tokens.{has_quote, quote_of, escaped}

-- a closing byte stands there that no backslash precedes
abbrev pub has : ℕ → Bool → List ℕ → Bool
has c e [] = false
has c e (b ∷ s) = (b == c && not e) || has c (b == 92) s

-- a backslash stands at the end
abbrev pub ends_escaped : Bool → List ℕ → Bool
ends_escaped e [] = e
ends_escaped e (b ∷ s) = ends_escaped (b == 92) s

same_quote : (e : Bool) (s : List ℕ) → has_quote e s ≡ has 34 e s
same_quote e [] = refl
same_quote e (b ∷ s) = ap (λ x. (b == 34 && not e) || x) (same_quote (b == 92) s)

self : (c : ℕ) → (c == c) ≡ true
self c = grind (arith, nat_tests)

-- with neither, the closing byte behind closes
pub closes : (c : ℕ) (e : Bool) (s rest : List ℕ) → has c e s ≡ false → ends_escaped e s ≡ false → closing c e (s ++ c ∷ rest) ≡ Some (length s)
unfolding closing
closes c e [] rest h u = ap (λ b. if b && not e then Some 0 else option_map suc (closing c (c == 92) rest)) (self c) ∙ ap (λ b. if not b then Some 0 else option_map suc (closing c (c == 92) rest)) u
closes c e (b ∷ s) rest h u =
    ap (λ x. if x then Some 0 else option_map suc (closing c (b == 92) (s ++ c ∷ rest))) (or_parts (b == c && not e) (has c (b == 92) s) h).0
    ∙ ap (option_map suc) (closes c (b == 92) s rest (or_parts (b == c && not e) (has c (b == 92) s) h).1 u)

-- neither of both
abbrev pub Stands : ℕ → Bool → List ℕ → Type 0
Stands c e s = (has c e s ≡ false) × (ends_escaped e s ≡ false)

more_than : (n : ℕ) (o : Option ℕ) → option_map suc o ≡ Some n → (m : ℕ) × (n ≡ suc m) × (o ≡ Some m)
more_than n None h = absurd (cc)
more_than n (Some m) h = (m, cc, refl)

-- and what a closing byte closes has neither
pub none_before : (c : ℕ) (e : Bool) (s : List ℕ) (n : ℕ) → closing c e s ≡ Some n → Stands c e (take n s)
unfolding closing
none_before c e [] n h = absurd (cc)
none_before c e (b ∷ s) n h = at (b == c && not e) refl h (λ m r. none_before c (b == 92) s m r)
  where
    at : (z : Bool) → (b == c && not e) ≡ z → (if z then Some 0 else option_map suc (closing c (b == 92) s)) ≡ Some n
        → ((m : ℕ) → closing c (b == 92) s ≡ Some m → Stands c (b == 92) (take m s)) → Stands c e (take n (b ∷ s))
    at true is h again =
        let zero_is : 0 ≡ n = cc in
        subst (λ (k : ℕ). Stands c e (take k (b ∷ s))) zero_is (refl, not-true e (and_parts (b == c) (not e) is).1)
    at false is h again =
        let r = more_than n (closing c (b == 92) s) h in
        let k = again r.0 r.2 in
        subst (λ (k : ℕ). Stands c e (take k (b ∷ s))) (sym r.1) (ap (λ z. z || has c (b == 92) (take r.0 s)) is ∙ k.0, k.1)

-- what is between two quotes of one kind has a kind of quote that it can stand between
abbrev pub Between : List ℕ → Type 0
Between s = (ends_escaped false s ≡ false) × ((has 34 false s ≡ false) ⊎ (has 39 false s ≡ false))

pub quoted_between : (c : ℕ) (s : List ℕ) (n : ℕ) → (c == 34 || c == 39) ≡ true → closing c false s ≡ Some n → Between (take n s)
quoted_between c s n is h = at (c == 34) refl is
  where
    r : Stands c false (take n s)
    r = none_before c false s n h

    at : (z : Bool) → (c == 34) ≡ z → (z || c == 39) ≡ true → Between (take n s)
    at true e k = (r.1, inl (subst (λ (q : ℕ). has q false (take n s) ≡ false) (eqb-true c 34 e) r.0))
    at false e k = (r.1, inr (subst (λ (q : ℕ). has q false (take n s) ≡ false) (eqb-true c 39 k) r.0))

-- and closes in the quotes that are printed
pub printed_closes : (s rest : List ℕ) → Between s → closing (quote_of s) false (s ++ quote_of s ∷ rest) ≡ Some (length s)
printed_closes s rest h = at (has_quote false s) refl
  where
    double : (has_quote false s ≡ false) → closing 34 false (s ++ 34 ∷ rest) ≡ Some (length s)
    double is = closes 34 false s rest (sym (same_quote false s) ∙ is) h.0

    only : has_quote false s ≡ true → ((has 34 false s ≡ false) ⊎ (has 39 false s ≡ false)) → has 39 false s ≡ false
    only is (inl k) = let z : true ≡ false = sym is ∙ same_quote false s ∙ k in absurd (cc)
    only is (inr k) = k

    at : (z : Bool) → has_quote false s ≡ z → closing (if z then 39 else 34) false (s ++ (if z then 39 else 34) ∷ rest) ≡ Some (length s)
    at true is = closes 39 false s rest (only is h.1) h.0
    at false is = double is

-- bytes without quotes and backslashes
abbrev pub is_plain : ℕ → Bool
is_plain b = not (b == 34 || b == 39 || b == 92)

abbrev pub ArePlain : List ℕ → Type 0
ArePlain [] = Unit {0}
ArePlain (b ∷ s) = (is_plain b ≡ true) × ArePlain s

plain_ends : (e : Bool) (s : List ℕ) → e ≡ false → ArePlain s → ends_escaped e s ≡ false
plain_ends e [] u h = u
plain_ends e (b ∷ s) u h = plain_ends (b == 92) s (grind (arith, nat_tests, h.0)) h.1

plain_has : (e : Bool) (s : List ℕ) → ArePlain s → has 34 e s ≡ false
plain_has e [] h = refl
plain_has e (b ∷ s) h = let k : (b == 34) ≡ false = grind (arith, nat_tests, h.0) in ap (λ z. z && not e || has 34 (b == 92) s) k ∙ plain_has (b == 92) s h.1

pub plain_between : (s : List ℕ) → ArePlain s → Between s
plain_between s h = (plain_ends false s refl h, inl (plain_has false s h))

-- a backslash before each `/` is put there and taken away
pub regexp_closes : (e : Bool) (s rest : List ℕ) → ends_escaped e s ≡ false → closing 47 e (escaped s ++ 47 ∷ rest) ≡ Some (length (escaped s))
unfolding closing
regexp_closes e [] rest h = ap (λ b. if not b then Some 0 else option_map suc (closing 47 false rest)) h
regexp_closes e (b ∷ s) rest h = at (b == 47) refl h (λ k. regexp_closes (b == 92) s rest k)
  where
    at : (z : Bool) → (b == 47) ≡ z → ends_escaped (b == 92) s ≡ false → (ends_escaped (b == 92) s ≡ false → closing 47 (b == 92) (escaped s ++ 47 ∷ rest) ≡ Some (length (escaped s)))
        → closing 47 e (((if z then 92 ∷ 47 ∷ [] else b ∷ []) ++ escaped s) ++ 47 ∷ rest) ≡ Some (length ((if z then 92 ∷ 47 ∷ [] else b ∷ []) ++ escaped s))
    at true is u again =
        let q : (b == 92) ≡ false = ap (λ k. k == 92) (eqb-true b 47 is) in
        ap (option_map suc) (ap (option_map suc) (ap (λ k. closing 47 k (escaped s ++ 47 ∷ rest)) (sym q) ∙ again u))
    at false is u again = ap (λ z. if z && not e then Some 0 else option_map suc (closing 47 (b == 92) (escaped s ++ 47 ∷ rest))) is ∙ ap (option_map suc) (again u)

not_slash : (s : List ℕ) → begins_with 47 (escaped s) ≡ false
not_slash [] = refl
not_slash (b ∷ s) = at (b == 47) refl
  where
    at : (z : Bool) → (b == 47) ≡ z → begins_with 47 ((if z then 92 ∷ 47 ∷ [] else b ∷ []) ++ escaped s) ≡ false
    at true is = refl
    at false is = is

pub unescaped_again : (s : List ℕ) → unescaped (escaped s) ≡ s
unfolding unescaped
unescaped_again [] = refl
unescaped_again (b ∷ s) = at (b == 47) refl (unescaped_again s)
  where
    at : (z : Bool) → (b == 47) ≡ z → unescaped (escaped s) ≡ s → unescaped ((if z then 92 ∷ 47 ∷ [] else b ∷ []) ++ escaped s) ≡ b ∷ s
    at true is again = ap (λ l. 47 ∷ l) again ∙ ap (λ k. k ∷ s) (sym (eqb-true b 47 is))
    at false is again =
        ap (λ z. if z then unescaped (escaped s) else b ∷ unescaped (escaped s)) (and_right (b == 92) (begins_with 47 (escaped s)) (not_slash s)) ∙ ap (λ l. b ∷ l) again

-- without the backslashes before a `/` the end stays
first_only : (b : ℕ) (s : List ℕ) → begins_with b s ≡ true → (e f : Bool) → ends_escaped e s ≡ ends_escaped f s
first_only b [] h e f = absurd (cc)
first_only b (c ∷ s) h e f = refl

pub ends_like : (e : Bool) (s : List ℕ) → ends_escaped e s ≡ false → ends_escaped e (unescaped s) ≡ false
unfolding unescaped
ends_like e [] h = h
ends_like e (b ∷ s) h = at (b == 92 && begins_with 47 s) refl (λ f k. ends_like f s k)
  where
    at : (z : Bool) → (b == 92 && begins_with 47 s) ≡ z → ((f : Bool) → ends_escaped f s ≡ false → ends_escaped f (unescaped s) ≡ false) → ends_escaped e (if z then unescaped s else b ∷ unescaped s) ≡ false
    at true is again = again e (first_only 47 s (and_parts (b == 92) (begins_with 47 s) is).1 e (b == 92) ∙ h)
    at false is again = again (b == 92) h
