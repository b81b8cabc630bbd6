-- Ranges of numbers in lists of bits.
use Rattle.std.proofs.Common.{◌≡◌, ◌≤◌, ◌<◌, ℕ, suc, ◌+◌, ◌-◌, min, nat_lt, not, ◌&&◌, ◌||◌, Bool, true, false, List, [], ◌∷◌, length, refl, sym, ◌∙◌, ap, arith, inl, inr}
use Rattle.std.proofs.Math.Path.{ap₂}
use Rattle.std.proofs.Math.Bool.{or-false}
use Rattle.std.proofs.lemmas.Bool.{cases_Bool}
use Rattle.std.proofs.lemmas.Bool.Decides.{nat_tests}
use Rattle.queue_files.specs.Kept.{leading}
use Rattle.queue_core.specs.Bits.{is_among, with_range}

less_same : (a b c d : ℕ) → (a < b → c < d) → (c < d → a < b) → nat_lt a b ≡ nat_lt c d
less_same a b c d to from = elim (cases_Bool (nat_lt a b)) [
  | inl less ↦ let there = to (grind (arith, nat_tests, less)) in less ∙ sym (grind (arith, nat_tests, there))
  | inr more ↦
      let here : b ≤ a = grind (arith, nat_tests, more) in
      elim (cases_Bool (nat_lt c d)) [
        | inl other ↦ absurd (omega (arith, here, from (grind (arith, nat_tests, other))))
        | inr same ↦ more ∙ sym same
      ]
]

-- a range of numbers, as places of a page that has so many rows from a number on
among_places : (least first behind count k : ℕ) → k < count → is_among (min (first - least) count) (min (behind - least) count) k ≡ is_among first behind (least + k)
unfolding is_among
among_places least first behind count k within =
    ap₂ (λ (a b : Bool). not a && b)
    (less_same k (min (first - least) count) (least + k) first (λ less. omega (arith, less)) (λ less. omega (arith, less, within)))
    (less_same k (min (behind - least) count) (least + k) behind (λ less. omega (arith, less)) (λ less. omega (arith, less, within)))

pub range_places : (least first behind count k : ℕ) (bits : List Bool) → k + length bits ≤ count
    → with_range (least + k) first behind bits ≡ with_range k (min (first - least) count) (min (behind - least) count) bits
range_places least first behind count k [] within = refl
range_places least first behind count k (b ∷ bits) within =
    let next : suc (least + k) ≡ least + suc k = omega arith in
    ap₂ (λ (a : Bool) (l : List Bool). (b || a) ∷ l) (sym (among_places least first behind count k (omega (arith, within))))
    (ap (λ n. with_range n first behind bits) next ∙ range_places least first behind count (suc k) bits (omega (arith, within)))

none_among : (from to k : ℕ) → to ≤ from → is_among from to k ≡ false
unfolding is_among
none_among from to k none = elim (cases_Bool (nat_lt k to)) [
  | inl less ↦ ap₂ (λ (a b : Bool). not a && b) (less_so k from (omega (arith, none, below k to less))) less
  | inr more ↦ by (not (nat_lt k from)) (nat_lt k to) more
]
  where
    below : (a b : ℕ) → nat_lt a b ≡ true → a < b
    below a b is = grind (arith, nat_tests, is)

    less_so : (a b : ℕ) → a < b → nat_lt a b ≡ true
    less_so a b less = grind (arith, nat_tests, less)

    by : (a b : Bool) → b ≡ false → (a && b) ≡ false
    by true b is = is
    by false b is = refl

-- an empty range sets none
pub range_none : (from to k : ℕ) (bits : List Bool) → to ≤ from → with_range k from to bits ≡ bits
range_none from to k [] none = refl
range_none from to k (b ∷ bits) none = ap₂ (λ (a : Bool) (l : List Bool). (b || a) ∷ l) (none_among from to k none) (range_none from to (suc k) bits none) ∙ ap (λ a. a ∷ bits) (or-false b)

-- those in front are not more than all
pub leading_short : (bits : List Bool) → leading bits ≤ length bits
leading_short [] = omega arith
leading_short (true ∷ bits) = omega (arith, leading_short bits)
leading_short (false ∷ bits) = omega arith

pub long_range : (k from to : ℕ) (bits : List Bool) → length (with_range k from to bits) ≡ length bits
long_range k from to [] = refl
long_range k from to (b ∷ bits) = ap suc (long_range (suc k) from to bits)

-- the rows of a page with numbers of a range, by their places
pub range_is : (least first behind count : ℕ) (bits : List Bool) → length bits ≡ count → (from to : ℕ) → from ≡ min (first - least) count → to ≡ min (behind - least) count
    → with_range 0 from to bits ≡ with_range least first behind bits
range_is least first behind count bits long from to from_is to_is =
    let here : least + 0 ≡ least = omega arith in
    ap₂ (λ (a b : ℕ). with_range 0 a b bits) from_is to_is ∙ sym (range_places least first behind count 0 bits (omega (arith, long))) ∙ ap (λ n. with_range n first behind bits) here
