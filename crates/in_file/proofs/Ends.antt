-- The ends of a name, and what passes of them.
use Rattle.std.proofs.Common.{◌≡◌, ℕ, zero, suc, ◌+◌, ◌-◌, subst, ◌<◌, ◌≤◌, List, [], ◌∷◌, ◌++◌, length, take, drop, get_or, replicate, refl, sym, ap, ap₂, ◌∙◌, arith, append_assoc, append-nil, Bool, true, false, if◌then◌else◌}
use Rattle.std.specs.Prelude.{◌==◌, ◌&&◌, ◌||◌}
use Rattle.std.specs.List.{list_any}
use Rattle.std.proofs.lemmas.List.{drop_more}
use Rattle.std.proofs.lemmas.Grind.{common_steps}
use Rattle.in_file.specs.Matching.{some_end, starts, is_none, behind, stands_for, ends_of, any_from, first_of}

pub empties : (s : List ℕ) → replicate (length s) false ++ true ∷ [] ≡ ends_of is_none s
empties [] = refl
empties (b ∷ s) = ap (λ bs. false ∷ bs) (empties s)

pub length-ends : (test : List ℕ → Bool) (s : List ℕ) → length (ends_of test s) ≡ length s + 1
length-ends test [] = refl
length-ends test (b ∷ s) = omega (arith, length-ends test s)

-- the test of an end
pub at_end : (test : List ℕ → Bool) (s : List ℕ) (i : ℕ) (d : Bool) → i ≤ length s → get_or (ends_of test s) i d ≡ test (drop i s)
at_end test [] zero d within = refl
at_end test [] (suc i) d within = absurd (omega arith)
at_end test (b ∷ s) zero d within = refl
at_end test (b ∷ s) (suc i) d within = at_end test s i d (omega arith)

any_ends : (test : List ℕ → Bool) (s : List ℕ) → list_any (λ x. x) (ends_of test s) ≡ some_end test s
any_ends test [] = by (test [])
  where
    by : (t : Bool) → (t || false) ≡ t
    by true = refl
    by false = refl
any_ends test (b ∷ s) = ap (λ t. test (b ∷ s) || t) (any_ends test s)

-- some later end passes
pub star : (test : List ℕ → Bool) (s : List ℕ) → any_from (ends_of test s) ≡ ends_of (some_end test) s
star test [] = ap (λ t. t ∷ []) (any_ends test [])
star test (b ∷ s) = ap₂ (λ t ts. t ∷ ts) (any_ends test (b ∷ s)) (star test s)

-- one more end
pub front : {A : Type 0} (xs : List A) (i : ℕ) (x : A) → i < length xs → x ≡ get_or xs i x → drop i xs ≡ x ∷ drop (i + 1) xs
front xs i x below is = drop_more xs i x below ∙ ap (λ y. y ∷ drop (i + 1) xs) (sym is)

pub star_more : (ends more : List Bool) (i : ℕ) (b : Bool) → i < length ends → more ++ any_from (drop i ends) ≡ any_from ends → b ≡ list_any (λ x. x) (drop i ends) → (more ++ b ∷ []) ++ any_from (drop (i + 1) ends) ≡ any_from ends
star_more ends more i b below so_far is =
    append_assoc more (b ∷ []) (any_from (drop (i + 1) ends))
    ∙ ap (λ t. more ++ t ∷ any_from (drop (i + 1) ends)) (is ∙ ap (list_any (λ x. x)) cut)
    ∙ ap (λ xs. more ++ any_from xs) (sym cut) ∙ so_far
  where
    cut : drop i ends ≡ get_or ends i false ∷ drop (i + 1) ends
    cut = drop_more ends i false below

pub byte_more : (byte : ℕ) (name : List ℕ) (test : List ℕ → Bool) (ends more : List Bool) (i : ℕ) (d b : Bool) → i < length name → more ++ ends_of (starts byte test) (drop i name) ≡ ends_of (starts byte test) name → ends ≡ ends_of test name → b ≡ (get_or name i 0 == byte && get_or ends (i + 1) d) → (more ++ b ∷ []) ++ ends_of (starts byte test) (drop (i + 1) name) ≡ ends_of (starts byte test) name
byte_more byte name test ends more i d b below so_far all is =
    append_assoc more (b ∷ []) (ends_of (starts byte test) (drop (i + 1) name))
    ∙ ap (λ t. more ++ t ∷ ends_of (starts byte test) (drop (i + 1) name)) (is ∙ ap (λ t. get_or name i 0 == byte && t) (ap (λ es. get_or es (i + 1) d) all ∙ at_end test name (i + 1) d (omega arith)))
    ∙ ap (λ xs. more ++ ends_of (starts byte test) xs) (sym cut) ∙ so_far
  where
    cut : drop i name ≡ get_or name i 0 ∷ drop (i + 1) name
    cut = drop_more name i 0 below

-- a byte more of the pattern
pub pattern_more : (pattern name : List ℕ) (at : ℕ) (ends : List Bool) → at < length pattern → ends ≡ ends_of (behind (get_or pattern at 0) (λ s. stands_for (drop (at + 1) pattern) s)) name → ends ≡ ends_of (λ s. stands_for (drop at pattern) s) name
pattern_more pattern name at ends below is = is ∙ ap (λ ps. ends_of (λ s. stands_for ps s) name) (sym (drop_more pattern at 0 below))

pub star_test : (byte : ℕ) (test : List ℕ → Bool) (s : List ℕ) → (byte == 42) ≡ true → ends_of (some_end test) s ≡ ends_of (behind byte test) s
star_test byte test s is = ap (λ t. ends_of (λ r. if t then some_end test r else starts byte test r) s) (sym is)

pub byte_test : (byte : ℕ) (test : List ℕ → Bool) (s : List ℕ) → (byte == 42) ≡ false → ends_of (starts byte test) s ≡ ends_of (behind byte test) s
byte_test byte test s is = ap (λ t. ends_of (λ r. if t then some_end test r else starts byte test r) s) (sym is)

pub turn : (pattern name : List ℕ) (left : ℕ) (lent ends more : List Bool) → 0 < left → left ≤ length pattern → ends ≡ ends_of (λ s. stands_for (drop left pattern) s) name → lent ≡ ends → ((test : List ℕ → Bool) → lent ≡ ends_of test name → more ≡ ends_of (behind (get_or pattern (left - 1) 0) test) name) → more ≡ ends_of (λ s. stands_for (drop (left - 1) pattern) s) name
turn pattern name left lent ends more some within so_far is each =
    let back : left - 1 + 1 ≡ left = omega arith in
    let below : left - 1 < length pattern = omega arith in
    pattern_more pattern name (left - 1) more below
    (subst (λ (n : ℕ). more ≡ ends_of (behind (get_or pattern (left - 1) 0) (λ s. stands_for (drop n pattern) s)) name) (sym back) (each (λ s. stands_for (drop left pattern) s) (is ∙ so_far)))

pub first-ends : (test : List ℕ → Bool) (s : List ℕ) → first_of (ends_of test s) ≡ test s
first-ends test [] = refl
first-ends test (b ∷ s) = refl

-- all that is left
pub rest_whole : (bs : List Bool) (i : ℕ) → take (length bs - i) (drop i bs) ≡ drop i bs
rest_whole bs i = grind (arith, common_steps)
