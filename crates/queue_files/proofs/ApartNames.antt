-- No two files of a folder have one name.
use Rattle.std.proofs.Common.{◌≡◌, ℕ, ◌+◌, ◌-◌, ◌%◌, ◌^◌, ◌<◌, ◌≤◌, true, false, List, [], ◌∷◌, ◌++◌, length, get_or, nat_lt, replicate, codes, inl, inr, refl, sym, ◌∙◌, ap, arith, length-append}
use Rattle.std.proofs.lemmas.Bool.{cond-true, cond-false, cases_Bool}
use Rattle.std.proofs.lemmas.Bool.Decides.{nat_tests}
use Rattle.std.proofs.lemmas.List.{append_cancel_left, length-replicate}
use Rattle.std.proofs.Math.Seq.{get_or-append_seam}
use Rattle.std.proofs.lemmas.Fmt.{decimal_injective, decimal_by_steps, length-decimal-le_succ}
use Rattle.std.specs.Fmt.{decimal}
use Rattle.queue_files.specs.Folders.{head, page, checkpoint, number_text}
use Rattle.queue_files.specs.Laws.{NamesDiffer}

abbrev EndsInDigit : ℕ → List ℕ → Type 0
EndsInDigit n ds = get_or ds (length ds - 1) 0 < 58

last_more : (n : ℕ) (ds : List ℕ) (d : ℕ) → d < 10 → EndsInDigit n (ds ++ ((48 + d) ∷ []))
last_more n ds d small =
    let place : length (ds ++ ((48 + d) ∷ [])) - 1 ≡ length ds = omega (arith, length-append ds ((48 + d) ∷ [])) in
    let is : get_or (ds ++ ((48 + d) ∷ [])) (length (ds ++ ((48 + d) ∷ [])) - 1) 0 ≡ 48 + d = ap (λ (k : ℕ). get_or (ds ++ ((48 + d) ∷ [])) k 0) place ∙ get_or-append_seam ds (48 + d) [] 0 in
    omega (arith, is, small)

ends_in_digit : (n : ℕ) → n < 2 ^ 64 → EndsInDigit n (decimal n)
ends_in_digit n fits = decimal_by_steps EndsInDigit (λ m small. last_more m [] m small) (λ m ds big more. last_more m ds (m % 10) (omega arith)) n fits

below_limit : (n : ℕ) → nat_lt n 0x1_0000_0000 ≡ true → n < 2 ^ 32
below_limit n is = grind (arith, nat_tests, is)

from_limit : (n : ℕ) → nat_lt n 0x1_0000_0000 ≡ false → 2 ^ 32 ≤ n
from_limit n is = grind (arith, nat_tests, is)

text_small : (n : ℕ) → nat_lt n 0x1_0000_0000 ≡ true → number_text n ≡ decimal n
text_small n is = cond-true (nat_lt n 0x1_0000_0000) (decimal n) (replicate (n + 1) 46) is

text_large : (n : ℕ) → nat_lt n 0x1_0000_0000 ≡ false → number_text n ≡ replicate (n + 1) 46
text_large n is = cond-false (nat_lt n 0x1_0000_0000) (decimal n) (replicate (n + 1) 46) is

small_large : (n m : ℕ) → n < 2 ^ 32 → 2 ^ 32 ≤ m → decimal n ≡ replicate (m + 1) 46 → ⊥
small_large n m small large same = absurd (omega (arith, small, large, length-decimal-le_succ n (omega (arith, small)), ap length same, length-replicate {A = ℕ} (m + 1) 46))

number_text_injective : (n m : ℕ) → number_text n ≡ number_text m → n ≡ m
number_text_injective n m same = elim (cases_Bool (nat_lt n 0x1_0000_0000)) [
  | inl one ↦ elim (cases_Bool (nat_lt m 0x1_0000_0000)) [
    | inl other ↦ decimal_injective n m (omega (arith, below_limit n one)) (omega (arith, below_limit m other)) (sym (text_small n one) ∙ same ∙ text_small m other)
    | inr other ↦ absurd (small_large n m (below_limit n one) (from_limit m other) (sym (text_small n one) ∙ same ∙ text_large m other))
  ]
  | inr one ↦ elim (cases_Bool (nat_lt m 0x1_0000_0000)) [
    | inl other ↦ absurd (small_large m n (below_limit m other) (from_limit n one) (sym (text_small m other) ∙ sym same ∙ text_large n one))
    | inr other ↦ omega (arith, ap length (sym (text_large n one) ∙ same ∙ text_large m other), length-replicate {A = ℕ} (n + 1) 46, length-replicate {A = ℕ} (m + 1) 46)
  ]
]

not_head : (n : ℕ) → number_text n ≡ codes "head" → ⊥
not_head n same = elim (cases_Bool (nat_lt n 0x1_0000_0000)) [
  | inl small ↦
      let digit = ends_in_digit n (omega (arith, below_limit n small)) in
      let is : decimal n ≡ codes "head" = sym (text_small n small) ∙ same in
      let last : get_or (decimal n) (length (decimal n) - 1) 0 ≡ 100 = ap (λ (l : List ℕ). get_or l (length l - 1) 0) is in
      absurd (omega (arith, digit, last))
  | inr large ↦ absurd (omega (arith, from_limit n large, ap length (sym (text_large n large) ∙ same), length-replicate {A = ℕ} (n + 1) 46))
]

first_differs : (folder x y : List ℕ) → folder ++ (codes "page." ++ x) ≡ folder ++ (codes "checkpoint." ++ y) → ⊥
first_differs folder x y same =
    let behind = append_cancel_left folder (codes "page." ++ x) (codes "checkpoint." ++ y) same in
    let first : 112 ≡ 99 = ap (λ (l : List ℕ). get_or l 0 0) behind in
    absurd (omega (arith, first))

behind_dot : (folder x y : List ℕ) → folder ++ (codes "checkpoint." ++ x) ≡ folder ++ (codes "checkpoint." ++ y) → x ≡ y
behind_dot folder x y same = append_cancel_left (codes "checkpoint.") x y (append_cancel_left folder (codes "checkpoint." ++ x) (codes "checkpoint." ++ y) same)

pub names_apart : NamesDiffer
names_apart folder head head same = refl
names_apart folder head (page n) same = absurd (first_differs folder (number_text n) (codes "head") (sym same))
names_apart folder head (checkpoint n) same = absurd (not_head n (sym (behind_dot folder (codes "head") (number_text n) same)))
names_apart folder (page n) head same = absurd (first_differs folder (number_text n) (codes "head") same)
names_apart folder (page n) (page m) same =
    ap page (number_text_injective n m (append_cancel_left (codes "page.") (number_text n) (number_text m) (append_cancel_left folder (codes "page." ++ number_text n) (codes "page." ++ number_text m) same)))
names_apart folder (page n) (checkpoint m) same = absurd (first_differs folder (number_text n) (number_text m) same)
names_apart folder (checkpoint n) head same = absurd (not_head n (behind_dot folder (number_text n) (codes "head") same))
names_apart folder (checkpoint n) (page m) same = absurd (first_differs folder (number_text m) (number_text n) (sym same))
names_apart folder (checkpoint n) (checkpoint m) same = ap checkpoint (number_text_injective n m (behind_dot folder (number_text n) (number_text m) same))
