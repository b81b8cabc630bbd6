-- Decimal digits: what they write, with zeros in front and without, and parts of them.
use Rattle.std.proofs.Common.{◌≡◌, ℕ, zero, suc, ◌+◌, ◌-◌, ◌*◌, ◌/◌, ◌%◌, ◌^◌, ◌<◌, ◌≤◌, true, List, [], ◌∷◌, ◌++◌, length, take, drop, refl, ap, ◌∙◌, arith, length-append}
use Rattle.std.specs.Prelude.{decimal}
use Rattle.std.proofs.lemmas.Bool.Decides.{nat_tests}
use Rattle.std.proofs.lemmas.Fmt.{decimal_by_steps}
use Rattle.event_tree.specs.NumberTexts.{is_digit, AreDigits, number}
use Rattle.event_tree.proofs.Tens.{number-append}
use Rattle.event_json.specs.Json.{zeros, padded}
use Rattle.event_json.proofs.Numbers.{length-zeros}

pub all_digits : (xs ys : List ℕ) → AreDigits xs → AreDigits ys → AreDigits (xs ++ ys)
all_digits [] ys h k = k
all_digits (x ∷ xs) ys h k = (h.0, all_digits xs ys h.1 k)

pub zeros_digits : (n : ℕ) → AreDigits (zeros n)
zeros_digits zero = tt
zeros_digits (suc n) = (refl, zeros_digits n)

pub digit_byte : (d : ℕ) → d < 10 → is_digit (48 + d) ≡ true
digit_byte d lt = grind (arith, nat_tests)

-- what decimal digits are, and the number that they write
abbrev pub Writes : ℕ → List ℕ → Type 0
Writes n ds = AreDigits ds × (number 0 ds ≡ n)

one_digit : (n : ℕ) → n < 10 → Writes n ((48 + n) ∷ [])
one_digit n lt = ((digit_byte n lt, tt), omega arith)

next_digit : (n : ℕ) (ds : List ℕ) → 10 ≤ n → Writes (n / 10) ds → Writes n (ds ++ ((48 + n % 10) ∷ []))
next_digit n ds le h =
    let lt : n % 10 < 10 = omega arith in
    (all_digits ds ((48 + n % 10) ∷ []) h.0 (digit_byte (n % 10) lt, tt), number-append 0 ds ((48 + n % 10) ∷ []) ∙ ap (λ x. 10 * x + (48 + n % 10 - 48)) h.1 ∙ omega arith)

pub decimal_writes : (n : ℕ) → n < 2 ^ 64 → Writes n (decimal n)
decimal_writes n lt = decimal_by_steps Writes one_digit next_digit n lt

pub zeros_write : (k : ℕ) (ds : List ℕ) → number 0 (zeros k ++ ds) ≡ number 0 ds
zeros_write zero ds = refl
zeros_write (suc k) ds = zeros_write k ds

pub padded_writes : (least n : ℕ) → n < 2 ^ 64 → Writes n (padded least n)
padded_writes least n lt =
    let w = decimal_writes n lt in
    let k = least - length (decimal n) in
    (all_digits (zeros k) (decimal n) (zeros_digits k) w.0, zeros_write k (decimal n) ∙ w.1)

pub take_digits : (n : ℕ) (ds : List ℕ) → AreDigits ds → AreDigits (take n ds)
take_digits zero ds h = tt
take_digits (suc n) [] h = tt
take_digits (suc n) (d ∷ ds) h = (h.0, take_digits n ds h.1)

pub drop_digits : (n : ℕ) (ds : List ℕ) → AreDigits ds → AreDigits (drop n ds)
drop_digits zero ds h = h
drop_digits (suc n) [] h = tt
drop_digits (suc n) (d ∷ ds) h = drop_digits n ds h.1

pub length-padded : (least n : ℕ) → length (padded least n) ≡ least - length (decimal n) + length (decimal n)
length-padded least n = length-append (zeros (least - length (decimal n))) (decimal n) ∙ ap (λ k. k + length (decimal n)) (length-zeros (least - length (decimal n)))
