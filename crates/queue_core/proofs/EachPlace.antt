-- Lists of which each element is changed, one place after another.
use Rattle.std.proofs.Common.{◌≡◌, ◌≤◌, ◌<◌, ℕ, zero, suc, ◌+◌, true, List, [], ◌∷◌, length, map, get_or, slice_set, refl, ap, ◌∙◌, arith, add-one}
use Rattle.queue_files.specs.declared.marking.Mark.{Mark}
use Rattle.queue_core.specs.Calls.{is_due, mark_of, marks_of, tail_marks}
use Rattle.queue_core.specs.Views.{OpenPageView}

-- ---- one list

-- from a place on each is changed
abbrev pub map_from : {X : Type 0} → (X → X) → ℕ → List X → List X
map_from f zero xs = map f xs
map_from f (suc n) [] = []
map_from f (suc n) (x ∷ xs) = x ∷ map_from f n xs

at_place : {X : Type 0} (f : X → X) (xs : List X) (i : ℕ) (x : X) → i < length xs → x ≡ get_or xs i x → map_from f (suc i) (slice_set xs i (f x)) ≡ map_from f i xs
at_place f [] i x less is = absurd (omega (arith, less))
at_place f (y ∷ xs) zero x less is = ap (λ z. f z ∷ map f xs) is
at_place f (y ∷ xs) (suc i) x less is = ap (λ l. y ∷ l) (at_place f xs i x (omega (arith, less)) is)

pub one_changed : {X : Type 0} (f : X → X) (xs : List X) (i : ℕ) (x y : X) → i < length xs → x ≡ get_or xs i x → y ≡ f x → map_from f (i + 1) (slice_set xs i y) ≡ map_from f i xs
one_changed f xs i x y less is changed = ap (λ z. map_from f (i + 1) (slice_set xs i z)) changed ∙ ap (λ n. map_from f n (slice_set xs i (f x))) (add-one i) ∙ at_place f xs i x less is

pub all_changed : {X : Type 0} (f : X → X) (xs : List X) (n : ℕ) → length xs ≤ n → map_from f n xs ≡ xs
all_changed f [] zero past = refl
all_changed f [] (suc n) past = refl
all_changed f (x ∷ xs) zero past = absurd (omega (arith, past))
all_changed f (x ∷ xs) (suc n) past = ap (λ l. x ∷ l) (all_changed f xs n (omega (arith, past)))

-- ---- marks, each by its page

abbrev pub marks_from : ℕ → List OpenPageView → List Mark → List Mark
marks_from zero tails marks = tail_marks tails marks
marks_from (suc n) [] marks = marks
marks_from (suc n) (o ∷ tails) [] = []
marks_from (suc n) (o ∷ tails) (m ∷ marks) = m ∷ marks_from n tails marks

mark_at : (tails : List OpenPageView) (marks : List Mark) (i : ℕ) (o : OpenPageView) (m : Mark) → i < length tails → i < length marks → o ≡ get_or tails i o → m ≡ get_or marks i m
    → marks_from (suc i) tails (slice_set marks i (mark_of o (is_due o) m)) ≡ marks_from i tails marks
mark_at [] marks i o m less room is was = absurd (omega (arith, less))
mark_at (p ∷ tails) [] i o m less room is was = absurd (omega (arith, room))
mark_at (p ∷ tails) (n ∷ marks) zero o m less room is was = ap (λ (x : OpenPageView). mark_of x (is_due x) m ∷ tail_marks tails marks) is ∙ ap (λ (x : Mark). mark_of p (is_due p) x ∷ tail_marks tails marks) was
mark_at (p ∷ tails) (n ∷ marks) (suc i) o m less room is was = ap (λ l. n ∷ l) (mark_at tails marks i o m (omega (arith, less)) (omega (arith, room)) is was)

pub one_marked : (tails : List OpenPageView) (marks : List Mark) (i : ℕ) (o : OpenPageView) (m new : Mark) → i < length tails → i < length marks → o ≡ get_or tails i o → m ≡ get_or marks i m → new ≡ mark_of o (is_due o) m
    → marks_from (i + 1) tails (slice_set marks i new) ≡ marks_from i tails marks
one_marked tails marks i o m new less room is was changed =
    ap (λ x. marks_from (i + 1) tails (slice_set marks i x)) changed ∙ ap (λ n. marks_from n tails (slice_set marks i (mark_of o (is_due o) m))) (add-one i) ∙ mark_at tails marks i o m less room is was

pub all_marked : (tails : List OpenPageView) (marks : List Mark) (n : ℕ) → length tails ≤ n → marks_from n tails marks ≡ marks
all_marked [] marks zero past = refl
all_marked [] marks (suc n) past = refl
all_marked (o ∷ tails) marks zero past = absurd (omega (arith, past))
all_marked (o ∷ tails) [] (suc n) past = refl
all_marked (o ∷ tails) (m ∷ marks) (suc n) past = ap (λ l. m ∷ l) (all_marked tails marks n (omega (arith, past)))

pub long_marks : (tails : List OpenPageView) (marks : List Mark) → length (tail_marks tails marks) ≡ length marks
long_marks [] marks = refl
long_marks (o ∷ tails) [] = refl
long_marks (o ∷ tails) (m ∷ marks) = ap suc (long_marks tails marks)

-- the last one is that of the head page
pub head_marked : (tails : List OpenPageView) (top : OpenPageView) (marks : List Mark) (m : Mark) → length marks ≡ length tails + 1 → m ≡ get_or (tail_marks tails marks) (length tails) m
    → slice_set (tail_marks tails marks) (length tails) (mark_of top true m) ≡ marks_of tails top marks
head_marked [] top [] m long was = absurd (omega (arith, long))
head_marked [] top (n ∷ []) m long was = ap (λ (x : Mark). mark_of top true x ∷ []) was
head_marked [] top (n ∷ k ∷ marks) m long was = absurd (omega (arith, long))
head_marked (o ∷ tails) top [] m long was = absurd (omega (arith, long))
head_marked (o ∷ tails) top (n ∷ marks) m long was = ap (λ l. mark_of o (is_due o) n ∷ l) (head_marked tails top marks m (omega (arith, long)) was)
