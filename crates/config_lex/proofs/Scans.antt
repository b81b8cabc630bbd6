-- One step of each scan over the bytes of a text.
use Rattle.std.proofs.Common.{◌≡◌, ℕ, zero, suc, ◌+◌, ◌-◌, ◌<◌, ◌≤◌, ◌==◌, ◌&&◌, ◌||◌, ◌⊎◌, inl, inr, not, nat_le, List, [], ◌∷◌, ◌++◌, length, take, drop, get_or, Option, Some, None, option_map, Bool, true, false, if◌then◌else◌, refl, ap, sym, ◌∙◌, arith, rules}
use Rattle.std.proofs.lemmas.List.{drop_all, drop_more, get_or-drop, length-drop}
use Rattle.std.proofs.lemmas.Bool.Decides.{nat_tests}
use Rattle.event_tree.specs.NumberTexts.{is_digit}
use Rattle.config_lex.specs.Bytes.{passing, skip, closing, is_blank, is_letter, is_in_word, begins_with, begins_digit, begins_number, point_length, unescaped, without_zeros, zeros_behind}

pub run_on : (t : ℕ → Bool) (s : List ℕ) (i : ℕ) → i < length s → t (get_or s i 0) ≡ true → passing t (drop i s) ≡ suc (passing t (drop (i + 1) s))
unfolding passing
run_on t s i l h = ap (passing t) (drop_more s i 0 l) ∙ ap (λ b. if b then suc (passing t (drop (i + 1) s)) else 0) h

pub run_stops : (t : ℕ → Bool) (s : List ℕ) (i : ℕ) → i < length s → t (get_or s i 0) ≡ false → passing t (drop i s) ≡ 0
unfolding passing
run_stops t s i l h = ap (passing t) (drop_more s i 0 l) ∙ ap (λ b. if b then suc (passing t (drop (i + 1) s)) else 0) h

pub run_ends : (t : ℕ → Bool) (s : List ℕ) (i : ℕ) → length s ≤ i → passing t (drop i s) ≡ 0
unfolding passing
run_ends t s i l = ap (passing t) (drop_all i s l)

-- blanks and comments
pub skip_ends : (inside : Bool) (s : List ℕ) (i : ℕ) → length s ≤ i → skip inside (drop i s) ≡ 0
unfolding skip
skip_ends inside s i l = ap (skip inside) (drop_all i s l)

pub skip_inside : (s : List ℕ) (i : ℕ) → i < length s → skip true (drop i s) ≡ suc (skip (not (get_or s i 0 == 10)) (drop (i + 1) s))
unfolding skip
skip_inside s i l = ap (skip true) (drop_more s i 0 l)

skip_outside : (s : List ℕ) (i : ℕ) → i < length s → skip false (drop i s) ≡ (if is_blank (get_or s i 0) then suc (skip false (drop (i + 1) s)) else (if get_or s i 0 == 35 then suc (skip true (drop (i + 1) s)) else 0))
unfolding skip
skip_outside s i l = ap (skip false) (drop_more s i 0 l)

pub skip_blank : (s : List ℕ) (i : ℕ) → i < length s → is_blank (get_or s i 0) ≡ true → skip false (drop i s) ≡ suc (skip false (drop (i + 1) s))
skip_blank s i l h = skip_outside s i l ∙ ap (λ b. if b then suc (skip false (drop (i + 1) s)) else (if get_or s i 0 == 35 then suc (skip true (drop (i + 1) s)) else 0)) h

pub skip_comment : (s : List ℕ) (i : ℕ) → i < length s → is_blank (get_or s i 0) ≡ false → (get_or s i 0 == 35) ≡ true → skip false (drop i s) ≡ suc (skip true (drop (i + 1) s))
skip_comment s i l h e = skip_outside s i l ∙ ap (λ b. if b then suc (skip false (drop (i + 1) s)) else (if get_or s i 0 == 35 then suc (skip true (drop (i + 1) s)) else 0)) h ∙ ap (λ b. if b then suc (skip true (drop (i + 1) s)) else 0) e

pub skip_stops : (s : List ℕ) (i : ℕ) → i < length s → is_blank (get_or s i 0) ≡ false → (get_or s i 0 == 35) ≡ false → skip false (drop i s) ≡ 0
skip_stops s i l h e = skip_outside s i l ∙ ap (λ b. if b then suc (skip false (drop (i + 1) s)) else (if get_or s i 0 == 35 then suc (skip true (drop (i + 1) s)) else 0)) h ∙ ap (λ b. if b then suc (skip true (drop (i + 1) s)) else 0) e

-- the closing byte
pub closing_ends : (c : ℕ) (e : Bool) (s : List ℕ) (i : ℕ) → length s ≤ i → closing c e (drop i s) ≡ None
unfolding closing
closing_ends c e s i l = ap (closing c e) (drop_all i s l)

closing_at : (c : ℕ) (e : Bool) (s : List ℕ) (i : ℕ) → i < length s → closing c e (drop i s) ≡ (if get_or s i 0 == c && not e then Some 0 else option_map suc (closing c (get_or s i 0 == 92) (drop (i + 1) s)))
unfolding closing
closing_at c e s i l = ap (closing c e) (drop_more s i 0 l)

pub closing_stops : (c : ℕ) (e : Bool) (s : List ℕ) (i : ℕ) → i < length s → (get_or s i 0 == c && not e) ≡ true → closing c e (drop i s) ≡ Some 0
closing_stops c e s i l h = closing_at c e s i l ∙ ap (λ b. if b then Some 0 else option_map suc (closing c (get_or s i 0 == 92) (drop (i + 1) s))) h

pub closing_on : (c : ℕ) (e : Bool) (s : List ℕ) (i : ℕ) → i < length s → (get_or s i 0 == c && not e) ≡ false → closing c e (drop i s) ≡ option_map suc (closing c (get_or s i 0 == 92) (drop (i + 1) s))
closing_on c e s i l h = closing_at c e s i l ∙ ap (λ b. if b then Some 0 else option_map suc (closing c (get_or s i 0 == 92) (drop (i + 1) s))) h

pub moved : (k : ℕ) (o : Option ℕ) → option_map (λ n. k + n) (option_map suc o) ≡ option_map (λ n. suc k + n) o
moved k None = refl
moved k (Some n) = ap Some (omega arith)

-- digits
pub equal_is : (a b : ℕ) → a ≡ b → (a == b) ≡ true
equal_is a b h = grind (arith, nat_tests)

pub unequal_is : (a b : ℕ) → (a ≡ b → ⊥) → (a == b) ≡ false
unequal_is a b h = grind (arith, nat_tests)

-- the zeros at the end
pub zero_dropped : (ds : List ℕ) (n : ℕ) → n < length ds → get_or ds n 0 ≡ 48 → without_zeros (take (suc n) ds) ≡ without_zeros (take n ds)
zero_dropped [] n l h = absurd (omega arith)
zero_dropped (d ∷ ds) zero l h = ap (λ b. if b then [] else d ∷ []) (equal_is d 48 h)
zero_dropped (d ∷ ds) (suc n) l h = ap (zeros_behind d) (zero_dropped ds n (omega arith) h)

pub digit_kept : (ds : List ℕ) (n : ℕ) → n < length ds → (get_or ds n 0 ≡ 48 → ⊥) → without_zeros (take (suc n) ds) ≡ take (suc n) ds
digit_kept [] n l h = absurd (omega arith)
digit_kept (d ∷ ds) zero l h = ap (λ b. if b then [] else d ∷ []) (unequal_is d 48 h)
digit_kept (d ∷ []) (suc n) l h = absurd (omega arith)
digit_kept (d ∷ e ∷ ds) (suc n) l h = ap (zeros_behind d) (digit_kept (e ∷ ds) n (omega arith) h)

-- backslashes
unescaped_at : (s : List ℕ) (i : ℕ) → i < length s → unescaped (drop i s) ≡ (if get_or s i 0 == 92 && begins_with 47 (drop (i + 1) s) then unescaped (drop (i + 1) s) else get_or s i 0 ∷ unescaped (drop (i + 1) s))
unfolding unescaped
unescaped_at s i l = ap unescaped (drop_more s i 0 l)

pub unescaped_left : (s : List ℕ) (i : ℕ) → i < length s → (get_or s i 0 == 92 && begins_with 47 (drop (i + 1) s)) ≡ true → unescaped (drop i s) ≡ unescaped (drop (i + 1) s)
unescaped_left s i l h = unescaped_at s i l ∙ ap (λ b. if b then unescaped (drop (i + 1) s) else get_or s i 0 ∷ unescaped (drop (i + 1) s)) h

pub unescaped_kept : (s : List ℕ) (i : ℕ) → i < length s → (get_or s i 0 == 92 && begins_with 47 (drop (i + 1) s)) ≡ false → unescaped (drop i s) ≡ get_or s i 0 ∷ unescaped (drop (i + 1) s)
unescaped_kept s i l h = unescaped_at s i l ∙ ap (λ b. if b then unescaped (drop (i + 1) s) else get_or s i 0 ∷ unescaped (drop (i + 1) s)) h

pub unescaped_ends : (s : List ℕ) (i : ℕ) → length s ≤ i → unescaped (drop i s) ≡ []
unfolding unescaped
unescaped_ends s i l = ap unescaped (drop_all i s l)

take_more : (s : List ℕ) (k : ℕ) → k < length s → (r : List ℕ) → take k s ++ get_or s k 0 ∷ r ≡ take (suc k) s ++ r
take_more [] k l r = absurd (omega arith)
take_more (b ∷ s) zero l r = refl
take_more (b ∷ s) (suc k) l r = ap (λ x. b ∷ x) (take_more s k (omega arith) r)

-- the part from a place on, with one more byte
pub part_more : (s : List ℕ) (from at : ℕ) → from ≤ at → at < length s → (r : List ℕ) → take (at - from) (drop from s) ++ get_or s at 0 ∷ r ≡ take (at + 1 - from) (drop from s) ++ r
part_more s from at h l r =
    let e : from + (at - from) ≡ at = omega arith in
    let f : suc (at - from) ≡ at + 1 - from = omega arith in
    let n : at - from < length (drop from s) = omega (arith, length-drop from s) in
    ap (λ b. take (at - from) (drop from s) ++ b ∷ r) (ap (λ i. get_or s i 0) (sym e) ∙ sym (get_or-drop from s (at - from) 0)) ∙ take_more (drop from s) (at - from) n r ∙ ap (λ k. take k (drop from s) ++ r) f

-- tests on the byte at a place
pub begins_at : (c : ℕ) (s : List ℕ) (i : ℕ) → i < length s → begins_with c (drop i s) ≡ (get_or s i 0 == c)
begins_at c s i l = ap (begins_with c) (drop_more s i 0 l)

pub digit_ascii : (b : ℕ) → is_digit b ≡ true → b < 128
digit_ascii b h = grind (arith, nat_tests)

pub letter_ascii : (b : ℕ) → is_letter b ≡ true → b < 128
letter_ascii b h = grind (arith, nat_tests)

or_splits : (a b : Bool) → (a || b) ≡ true → (a ≡ true) ⊎ (b ≡ true)
or_splits true b h = inl refl
or_splits false b h = inr h

pub word_ascii : (dashes : Bool) (b : ℕ) → is_in_word dashes b ≡ true → b < 128
word_ascii dashes b h = by (or_splits (is_letter b || is_digit b) (dashes && b == 45) h)
  where
    dash : (d : Bool) → (d && b == 45) ≡ true → b < 128
    dash true g = grind (arith, nat_tests)
    dash false g = absurd (search (g, rules))

    front : ((is_letter b ≡ true) ⊎ (is_digit b ≡ true)) → b < 128
    front (inl g) = letter_ascii b g
    front (inr g) = digit_ascii b g

    by : (((is_letter b || is_digit b) ≡ true) ⊎ ((dashes && b == 45) ≡ true)) → b < 128
    by (inl g) = front (or_splits (is_letter b) (is_digit b) g)
    by (inr g) = dash dashes g

pub run_some : (t : ℕ → Bool) (s : List ℕ) → (b : ℕ) (r : List ℕ) → s ≡ b ∷ r → t b ≡ true → 0 < passing t s
unfolding passing
run_some t s b r e h = let q : passing t s ≡ suc (passing t r) = ap (passing t) e ∙ ap (λ x. if x then suc (passing t r) else 0) h in omega (arith, q)

-- a point with digits
pub point_some : (s : List ℕ) (i : ℕ) → begins_with 46 (drop i s) ≡ true → begins_digit (drop (i + 1) s) ≡ true → point_length (drop i s) ≡ suc (passing is_digit (drop (i + 1) s))
point_some s i p d = by (nat_le (suc i) (length s)) refl
  where
    by : (t : Bool) → nat_le (suc i) (length s) ≡ t → point_length (drop i s) ≡ suc (passing is_digit (drop (i + 1) s))
    by true e =
        let l : i < length s = grind (arith, nat_tests) in
        ap point_length (drop_more s i 0 l) ∙ ap (λ b. if b && begins_digit (drop (i + 1) s) then suc (passing is_digit (drop (i + 1) s)) else 0) (sym (begins_at 46 s i l) ∙ p)
        ∙ ap (λ b. if b then suc (passing is_digit (drop (i + 1) s)) else 0) d
    by false e = let g : length s ≤ i = grind (arith, nat_tests) in let q : false ≡ true = sym (ap (begins_with 46) (drop_all i s g)) ∙ p in absurd (search (q, rules))

pub point_none : (s : List ℕ) (i : ℕ) → (begins_with 46 (drop i s) && begins_digit (drop (i + 1) s)) ≡ false → point_length (drop i s) ≡ 0
point_none s i p = by (nat_le (suc i) (length s)) refl
  where
    by : (t : Bool) → nat_le (suc i) (length s) ≡ t → point_length (drop i s) ≡ 0
    by true e =
        let l : i < length s = grind (arith, nat_tests) in
        ap point_length (drop_more s i 0 l) ∙ ap (λ b. if b then suc (passing is_digit (drop (i + 1) s)) else 0) (ap (λ b. b && begins_digit (drop (i + 1) s)) (sym (begins_at 46 s i l)) ∙ p)
    by false e = let g : length s ≤ i = grind (arith, nat_tests) in ap point_length (drop_all i s g)

pub digits_some : (s : List ℕ) → begins_digit s ≡ true → 0 < passing is_digit s
digits_some [] h = absurd (search (h, rules))
digits_some (b ∷ s) h = run_some is_digit (b ∷ s) b s refl h

pub word_some : (dashes : Bool) (s : List ℕ) (i : ℕ) → i < length s → is_letter (get_or s i 0) ≡ true → 0 < passing (is_in_word dashes) (drop i s)
word_some dashes s i l h = run_some (is_in_word dashes) (drop i s) (get_or s i 0) (drop (i + 1) s) (drop_more s i 0 l) (ap (λ x. x || is_digit (get_or s i 0) || (dashes && get_or s i 0 == 45)) h)

pub unsigned : (s : List ℕ) → begins_with 45 s ≡ false → begins_number s ≡ begins_digit s
unsigned s h = ap (λ x. begins_digit (drop (if x then 1 else 0) s)) h
