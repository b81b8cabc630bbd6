-- Cutting blanks off the ends of a text, a byte at a time.
use Rattle.std.proofs.Common.{◌≡◌, ℕ, suc, ◌+◌, ◌-◌, ◌<◌, ◌≤◌, List, [], ◌∷◌, ◌++◌, length, take, drop, get_or, refl, sym, ap, ◌∙◌, arith, Bool, true, false, if◌then◌else◌}
use Rattle.std.proofs.lemmas.List.{drop_more, take_more, get_or-drop, length-drop}
use Rattle.std.proofs.Math.ListN.{drop_of_length-le}
use Rattle.std.proofs.lemmas.Bool.Decides.{nat_tests}
use Rattle.std.specs.Prelude.{slice_range}
use Rattle.filters_mutate.specs.Texts.{is_space, without_front, before_end, without_end}

abbrev front_by : ℕ → List ℕ → Bool → List ℕ
front_by b bs t = if t then without_front bs else b ∷ bs

pub front_more : (s : List ℕ) (i : ℕ) → i < length s → is_space (get_or s i 0) ≡ true → without_front (drop (i + 1) s) ≡ without_front (drop i s)
front_more s i below space =
    sym (ap without_front (drop_more s i 0 below) ∙ ap (front_by (get_or s i 0) (drop (i + 1) s)) space)

pub front_stays : (s : List ℕ) (i : ℕ) → i < length s → is_space (get_or s i 0) ≡ false → drop i s ≡ without_front (drop i s)
front_stays s i below other =
    drop_more s i 0 below ∙ sym (ap without_front (drop_more s i 0 below) ∙ ap (front_by (get_or s i 0) (drop (i + 1) s)) other)

pub front_end : (s : List ℕ) (i : ℕ) → length s ≤ i → drop i s ≡ without_front (drop i s)
front_end s i end = let none : drop i s ≡ [] = drop_of_length-le s end in none ∙ sym (ap without_front none)

abbrev end_by : ℕ → Bool → List ℕ
end_by b t = if t then [] else b ∷ []

last_space : (xs : List ℕ) (b : ℕ) → is_space b ≡ true → without_end (xs ++ b ∷ []) ≡ without_end xs
last_space [] b space = ap (end_by b) space
last_space (x ∷ xs) b space = ap (before_end x) (last_space xs b space)

some_before : (x : ℕ) (xs : List ℕ) (b : ℕ) → before_end x (xs ++ b ∷ []) ≡ x ∷ (xs ++ b ∷ [])
some_before x [] b = refl
some_before x (y ∷ ys) b = refl

last_other : (xs : List ℕ) (b : ℕ) → is_space b ≡ false → without_end (xs ++ b ∷ []) ≡ xs ++ b ∷ []
last_other [] b other = ap (end_by b) other
last_other (x ∷ xs) b other = ap (before_end x) (last_other xs b other) ∙ some_before x xs b

-- the range up to the byte behind the one at this place
range_more : (s : List ℕ) (a i : ℕ) → a ≤ i → i < length s → slice_range s a (i + 1) ≡ slice_range s a i ++ get_or s i 0 ∷ []
range_more s a i after below =
    let count : i + 1 - a ≡ (i - a) + 1 = omega arith in
    let whole : a + (i - a) ≡ i = omega arith in
    ap (λ n. take n (drop a s)) count
    ∙ take_more (drop a s) (i - a) 0 (omega (arith, length-drop a s))
    ∙ ap (λ b. take (i - a) (drop a s) ++ b ∷ []) (get_or-drop a s (i - a) 0 ∙ ap (λ n. get_or s n 0) whole)

pub end_more : (s : List ℕ) (a i : ℕ) → a ≤ i → i < length s → is_space (get_or s i 0) ≡ true → without_end (slice_range s a i) ≡ without_end (slice_range s a (i + 1))
end_more s a i after below space = sym (ap without_end (range_more s a i after below) ∙ last_space (slice_range s a i) (get_or s i 0) space)

pub end_stays : (s : List ℕ) (a i : ℕ) → a ≤ i → i < length s → is_space (get_or s i 0) ≡ false → slice_range s a (i + 1) ≡ without_end (slice_range s a (i + 1))
end_stays s a i after below other =
    range_more s a i after below ∙ sym (ap without_end (range_more s a i after below) ∙ last_other (slice_range s a i) (get_or s i 0) other)

pub end_start : (s : List ℕ) (a : ℕ) → slice_range s a a ≡ without_end (slice_range s a a)
end_start s a = let none : a - a ≡ 0 = omega arith in ap (λ n. take n (drop a s)) none ∙ sym (ap (λ n. without_end (take n (drop a s))) none)

pub space_is_ascii : (b : ℕ) → is_space b ≡ true → b < 128
space_is_ascii b space = grind (arith, nat_tests)
