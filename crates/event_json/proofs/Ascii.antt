-- What is ASCII.
use Rattle.std.proofs.Common.{◌≡◌, ℕ, zero, suc, ◌<◌, List, [], ◌∷◌, ◌++◌, arith, true, inl, inr}
use Rattle.std.proofs.lemmas.Bool.Decides.{nat_tests}
use Rattle.std.specs.Str.{IsAscii}
use Rattle.std.proofs.lemmas.Str.{IsAscii-append}
use Rattle.event_tree.specs.NumberTexts.{is_digit}
use Rattle.event_json.specs.Grammar.{Number, AreSpace, AreDigits, IsWhole, IsMinus, IsFraction, IsPower, IsExponent, IsNumber, number_bytes, is_space}

pub ascii_nil : IsAscii []
ascii_nil i = omega arith

pub ascii_cons : (b : ℕ) (bs : List ℕ) → b < 128 → IsAscii bs → IsAscii (b ∷ bs)
ascii_cons b bs lt h zero = lt
ascii_cons b bs lt h (suc i) = h i

space_byte : (b : ℕ) → is_space b ≡ true → b < 128
space_byte b e = grind (arith, nat_tests)

digit_byte : (b : ℕ) → is_digit b ≡ true → b < 128
digit_byte b e = grind (arith, nat_tests)

pub space_ascii : (s : List ℕ) → AreSpace s → IsAscii s
space_ascii [] h = ascii_nil
space_ascii (b ∷ bs) h = ascii_cons b bs (space_byte b h.0) (space_ascii bs h.1)

digits_ascii : (s : List ℕ) → AreDigits s → IsAscii s
digits_ascii [] h = ascii_nil
digits_ascii (b ∷ bs) h = ascii_cons b bs (digit_byte b h.0) (digits_ascii bs h.1)

minus_ascii : (s : List ℕ) → IsMinus s → IsAscii s
minus_ascii s (inl e) = rw e ascii_nil
minus_ascii s (inr e) = rw e (ascii_cons 45 [] (omega arith) ascii_nil)

whole_ascii : (s : List ℕ) → IsWhole s → IsAscii s
whole_ascii [] h = absurd h
whole_ascii (b ∷ bs) (inl h) = rw (h.0, h.1) (ascii_cons 48 [] (omega arith) ascii_nil)
whole_ascii (b ∷ bs) (inr h) = ascii_cons b bs (omega (arith, h.1)) (digits_ascii bs h.2)

fraction_ascii : (s : List ℕ) → IsFraction s → IsAscii s
fraction_ascii [] h = ascii_nil
fraction_ascii (b ∷ bs) h = ascii_cons b bs (omega (arith, h.0)) (digits_ascii bs h.1.1)

power_ascii : (s : List ℕ) → IsPower s → IsAscii s
power_ascii [] h = absurd h
power_ascii (b ∷ bs) (inl (inl e, h)) = ascii_cons b bs (omega (arith, e)) (digits_ascii bs h.1)
power_ascii (b ∷ bs) (inl (inr e, h)) = ascii_cons b bs (omega (arith, e)) (digits_ascii bs h.1)
power_ascii (b ∷ bs) (inr h) = digits_ascii (b ∷ bs) h.1

exponent_ascii : (s : List ℕ) → IsExponent s → IsAscii s
exponent_ascii [] h = ascii_nil
exponent_ascii (b ∷ bs) (inl e, h) = ascii_cons b bs (omega (arith, e)) (power_ascii bs h)
exponent_ascii (b ∷ bs) (inr e, h) = ascii_cons b bs (omega (arith, e)) (power_ascii bs h)

pub number_ascii : (x : Number) → IsNumber x → IsAscii (number_bytes x)
number_ascii x h = IsAscii-append x.minus (x.whole ++ (x.fraction ++ x.exponent)) (minus_ascii x.minus h.minus) (IsAscii-append x.whole (x.fraction ++ x.exponent) (whole_ascii x.whole h.whole) (IsAscii-append x.fraction x.exponent (fraction_ascii x.fraction h.fraction) (exponent_ascii x.exponent h.exponent)))
