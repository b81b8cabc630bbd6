-- The digits in front of a text are digits.
use Rattle.std.proofs.Common.{◌≡◌, ℕ, List, [], ◌∷◌, Bool, true, false, cond, refl}
use Rattle.event_tree.specs.NumberTexts.{is_digit, AreDigits, digits_front}

by : (b : ℕ) (bs : List ℕ) (t : Bool) → is_digit b ≡ t → AreDigits bs → AreDigits (cond t (b ∷ bs) [])
by b bs true e a = (e, a)
by b bs false e a = tt

pub front_are_digits : (bs : List ℕ) → AreDigits (digits_front bs)
front_are_digits [] = tt
front_are_digits (b ∷ bs) = by b (digits_front bs) (is_digit b) refl (front_are_digits bs)
