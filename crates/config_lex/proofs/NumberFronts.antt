-- What stands in front of a text as a number is the text of a number, and digits stand before its point and behind it.
use Rattle.std.proofs.Common.{◌≡◌, ◌≤◌, ℕ, zero, suc, ◌+◌, ◌==◌, ◌&&◌, List, [], ◌∷◌, length, take, drop, Bool, true, false, if◌then◌else◌, refl, ap, subst, ◌∙◌, arith}
use Rattle.std.proofs.lemmas.List.{drop-drop, drop-take, length-drop, length-take-le}
use Rattle.event_tree.specs.NumberTexts.{AreDigits, is_digit}
use Rattle.config_lex.specs.Bytes.{passing, begins_digit, begins_number, sign_length, whole_length, point_length, number_length, zeros_behind, without_zeros}
use Rattle.config_lex.specs.Laws.{IsNumberText, places}
use Rattle.config_lex.proofs.Writing.{whole_fits, number_fits, digits_some}

-- a front that has all bytes which pass a test has as many of them
front_passes : (test : ℕ → Bool) (s : List ℕ) (k : ℕ) → passing test s ≤ k → passing test (take k s) ≡ passing test s
unfolding passing
front_passes test [] zero h = refl
front_passes test [] (suc k) h = refl
front_passes test (b ∷ s) zero h = none (test b) h
  where
    none : (z : Bool) → (if z then suc (passing test s) else 0) ≤ 0 → 0 ≡ (if z then suc (passing test s) else 0)
    none true g = absurd (omega (arith, g))
    none false g = refl
front_passes test (b ∷ s) (suc k) h = one (test b) h (front_passes test s k)
  where
    one : (z : Bool) → (if z then suc (passing test s) else 0) ≤ suc k → (passing test s ≤ k → passing test (take k s) ≡ passing test s)
        → (if z then suc (passing test (take k s)) else 0) ≡ (if z then suc (passing test s) else 0)
    one true g again = ap suc (again (omega (arith, g)))
    one false g again = refl

same_sign : (s : List ℕ) (n : ℕ) → 1 ≤ n → sign_length (take n s) ≡ sign_length s
same_sign s zero h = absurd (omega (arith, h))
same_sign [] (suc n) h = refl
same_sign (b ∷ s) (suc n) h = refl

same_first : (s : List ℕ) (n : ℕ) → 1 ≤ n → begins_digit (take n s) ≡ begins_digit s
same_first s zero h = absurd (omega (arith, h))
same_first [] (suc n) h = refl
same_first (b ∷ s) (suc n) h = refl

-- a point with its digits is one where nothing stands behind it
same_point : (r : List ℕ) → point_length (take (point_length r) r) ≡ point_length r
unfolding passing
same_point [] = refl
same_point (b ∷ r) = at (b == 46) refl (begins_digit r) refl
  where
    at : (y : Bool) → (b == 46) ≡ y → (z : Bool) → begins_digit r ≡ z
        → point_length (take (if y && z then suc (passing is_digit r) else 0) (b ∷ r)) ≡ (if y && z then suc (passing is_digit r) else 0)
    at false e z g = refl
    at true e false g = refl
    at true e true g =
        let n = passing is_digit r in
        let first : begins_digit (take n r) ≡ true = same_first r n (digits_some r g) ∙ g in
        let both : (b == 46 && begins_digit (take n r)) ≡ true = ap (λ y. y && begins_digit (take n r)) e ∙ first in
        ap (λ y. if y then suc (passing is_digit (take n r)) else 0) both ∙ ap suc (front_passes is_digit r n (omega arith))

pub front_is_number : (s : List ℕ) → begins_number s ≡ true → IsNumberText (take (number_length s) s)
front_is_number s h =
    let k = sign_length s in
    let r = drop k s in
    let d = passing is_digit r in
    let w = whole_length s in
    let p = point_length (drop w s) in
    let n = number_length s in
    let u = take n s in
    let some : 1 ≤ d = digits_some r h in
    let sign : sign_length u ≡ k = same_sign s n (omega (arith, some)) in
    let parts : n ≡ k + (d + p) = omega arith in
    let front : drop k u ≡ take (d + p) r = ap (λ j. drop k (take j s)) parts ∙ drop-take k (d + p) s in
    let behind : drop (sign_length u) u ≡ take (d + p) r = ap (λ j. drop j u) sign ∙ front in
    let digits : passing is_digit (drop (sign_length u) u) ≡ d = ap (passing is_digit) behind ∙ front_passes is_digit r (d + p) (omega arith) in
    let whole : whole_length u ≡ w = ap (λ j. j + passing is_digit (drop (sign_length u) u)) sign ∙ ap (λ j. k + j) digits in
    let point : point_length (drop (whole_length u) u) ≡ p = ap (λ j. point_length (drop j u)) whole ∙ ap point_length (drop-take w p s) ∙ same_point (drop w s) in
    let begins : begins_number u ≡ true = ap begins_digit behind ∙ same_first r (d + p) (omega (arith, some)) ∙ h in
    let length_is : number_length u ≡ n = ap (λ j. j + point_length (drop (whole_length u) u)) whole ∙ ap (λ j. w + j) point in
    let fits : length u ≡ n = length-take-le n s (number_fits s) in
    (begins, omega (arith, length_is, fits))

-- what passes as digits are digits
pub front_digits : (s : List ℕ) → AreDigits (take (passing is_digit s) s)
unfolding passing
front_digits [] = tt
front_digits (b ∷ s) = at (is_digit b) refl (front_digits s)
  where
    at : (z : Bool) → is_digit b ≡ z → AreDigits (take (passing is_digit s) s) → AreDigits (take (if z then suc (passing is_digit s) else 0) (b ∷ s))
    at true e again = (e, again)
    at false e again = tt

passing_all : (s : List ℕ) → passing is_digit s ≡ length s → AreDigits s
unfolding passing
passing_all [] e = tt
passing_all (b ∷ s) e = by (is_digit b) refl e (λ h. passing_all s h)
  where
    by : (z : Bool) → is_digit b ≡ z → (if z then suc (passing is_digit s) else 0) ≡ suc (length s) → (passing is_digit s ≡ length s → AreDigits s) → AreDigits (b ∷ s)
    by true f e again = (f, again (omega (arith, e)))
    by false f e again = absurd (omega (arith, e))

-- behind the point stand digits alone
behind_point : (r : List ℕ) → point_length r ≡ length r → AreDigits (drop 1 r)
behind_point [] e = tt
behind_point (b ∷ s) e = by (b == 46 && begins_digit s) refl e
  where
    by : (z : Bool) → (b == 46 && begins_digit s) ≡ z → (if z then suc (passing is_digit s) else 0) ≡ suc (length s) → AreDigits s
    by true f e = passing_all s (omega (arith, e))
    by false f e = absurd (omega (arith, e))

pub places_are_digits : (s : List ℕ) → IsNumberText s → AreDigits (places s)
places_are_digits s h =
    let r = drop (whole_length s) s in
    let all : point_length r ≡ length r = omega (arith, h.1, length-drop (whole_length s) s, whole_fits s) in
    let next : whole_length s + 1 ≡ suc (whole_length s) = omega arith in
    let is : drop 1 r ≡ places s = drop-drop 1 (whole_length s) s ∙ ap (λ n. drop n s) next in
    subst AreDigits is (behind_point r all)

-- digits are so without the zeros at their end
pub kept_are_digits : (f : List ℕ) → AreDigits f → AreDigits (without_zeros f)
kept_are_digits [] a = tt
kept_are_digits (b ∷ f) a = by (without_zeros f) (kept_are_digits f a.1)
  where
    one : (z : Bool) → AreDigits (if z then [] else b ∷ [])
    one true = tt
    one false = (a.0, tt)

    by : (w : List ℕ) → AreDigits w → AreDigits (zeros_behind b w)
    by [] k = one (b == 48)
    by (c ∷ w) k = (a.0, k)
