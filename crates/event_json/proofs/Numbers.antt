-- Digits, zeros in front of them and a point among them.
use Rattle.std.proofs.Common.{◌≡◌, ℕ, zero, suc, ◌+◌, ◌-◌, ◌<◌, ◌≤◌, List, ◌∷◌, ◌++◌, length, take, drop, refl, ap, ◌∙◌, arith, length-append, unsigned_abs}
use Rattle.std.specs.Prelude.{decimal}
use Rattle.event_tree.specs.Number.{Num}
use Rattle.event_json.specs.Json.{zeros, pointed, sign_of, number_text}

pub take-zeros : (n m : ℕ) → n ≤ m → take n (zeros m) ≡ zeros n
take-zeros zero m h = refl
take-zeros (suc n) zero h = absurd (omega arith)
take-zeros (suc n) (suc m) h = ap (λ l. 48 ∷ l) (take-zeros n m (omega arith))

pub length-zeros : (n : ℕ) → length (zeros n) ≡ n
length-zeros zero = refl
length-zeros (suc n) = ap suc (length-zeros n)

-- where the digits are too few, a zero stands before the point, and zeros behind it
pub pointed-few : (places : ℕ) (digits : List ℕ) → 0 < places → length digits ≤ places
    → pointed places (zeros (places + 1 - length digits) ++ digits) ≡ 48 ∷ 46 ∷ (zeros (places - length digits) ++ digits)
pointed-few zero digits some few = absurd (omega arith)
pointed-few (suc p) digits some few =
    let behind = zeros (suc p - length digits) ++ digits in
    let e : suc p + 1 - length digits ≡ suc (suc p - length digits) = omega arith in
    let n : length (48 ∷ behind) - suc p ≡ 1 = omega (arith, length-append (zeros (suc p - length digits)) digits, length-zeros (suc p - length digits)) in
    ap (λ k. pointed (suc p) (zeros k ++ digits)) e ∙ ap (λ k. take k (48 ∷ behind) ++ 46 ∷ drop k (48 ∷ behind)) n

pub number_parts : (n : Num) → number_text n ≡ sign_of n.mantissa ++ pointed n.scale (zeros (n.scale + 1 - length (decimal (unsigned_abs n.mantissa))) ++ decimal (unsigned_abs n.mantissa))
unfolding number_text
number_parts n = refl
