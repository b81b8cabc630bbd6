-- Numbers as JSON writes them (RFC 8259, section 6), and the numbers that they stand for.
use Rattle.std.specs.Prelude.{◌≡◌, ℕ, zero, suc, ◌+◌, ◌-◌, ◌*◌, ◌%◌, ◌==◌, ◌&&◌, ◌||◌, not, nat_le, slice_index, ℤ, pos, negsuc, neg_ℤ, ◌≤ℤ◌, Bool, true, false, if◌then◌else◌, List, [], ◌∷◌, ◌++◌, length, take, Option, Some, None, option_map, option_and_then, ⊤}
use Rattle.event_tree.specs.Characters.{minus, plus, point, digit_zero, small_e, capital_e}
pub use Rattle.event_tree.specs.Characters.{is_digit}
use Rattle.event_tree.specs.Number.{Num, IsLeast, least}
use Rattle.event_tree.specs.Paths.{at_most}

-- the parts of a text: the digits before the point, those behind it, and those of the exponent, which is negative where `lower` says so
pub record Decimal : Type 0 where
  pub negative : Bool
  pub whole : List ℕ
  pub fraction : List ℕ
  pub lower : Bool
  pub exponent : List ℕ

-- the digits in front, and what is behind them
abbrev pub digits_front : List ℕ → List ℕ
digits_front [] = []
digits_front (b ∷ bs) = if is_digit b then b ∷ digits_front bs else []

abbrev pub digits_behind : List ℕ → List ℕ
digits_behind [] = []
digits_behind (b ∷ bs) = if is_digit b then digits_behind bs else b ∷ bs

abbrev pub AreDigits : List ℕ → Type 0
AreDigits [] = ⊤
AreDigits (b ∷ bs) = (is_digit b ≡ true) × AreDigits bs

-- whether a `-` stands in front, and what is behind it
abbrev pub split_minus : List ℕ → Bool × List ℕ
split_minus [] = (false, [])
split_minus (b ∷ bs) = if b == minus then (true, bs) else (false, b ∷ bs)

-- the same where a `+` may stand there too
abbrev pub split_sign : List ℕ → Bool × List ℕ
split_sign [] = (false, [])
split_sign (b ∷ bs) = if b == plus then (false, bs) else split_minus (b ∷ bs)

-- one digit, or more of which the first is no 0
abbrev pub is_whole : List ℕ → Bool
is_whole ds = not (length ds == 0) && (length ds == 1 || not (slice_index ds 0 == digit_zero))

abbrev pub some_digits : List ℕ → List ℕ → Option (List ℕ × List ℕ)
some_digits ds rest = if length ds == 0 then None else Some (ds, rest)

-- the digits behind a point, where one stands in front, and what is behind them
abbrev pub fraction_of : List ℕ → Option (List ℕ × List ℕ)
fraction_of [] = Some ([], [])
fraction_of (b ∷ bs) = if b == point then some_digits (digits_front bs) (digits_behind bs) else Some ([], b ∷ bs)

abbrev pub only_digits : Bool → List ℕ → List ℕ → Option (Bool × List ℕ)
only_digits lower ds rest = if length ds == 0 || not (length rest == 0) then None else Some (lower, ds)

-- the whole text as an exponent, which begins with `e` or `E`
abbrev pub exponent_of : List ℕ → Option (Bool × List ℕ)
exponent_of [] = Some (false, [])
exponent_of (b ∷ bs) =
    if b == small_e || b == capital_e
    then only_digits (split_sign bs).0 (digits_front (split_sign bs).1) (digits_behind (split_sign bs).1)
    else None

-- the parts, where those of the exponent are known too
abbrev pub with_exponent : Bool → List ℕ → List ℕ → Bool × List ℕ → Decimal
with_exponent negative whole fraction e =
    record { negative = negative; whole = whole; fraction = fraction; lower = e.0; exponent = e.1 }

-- the parts, where the digits before the point and those behind it are known: an exponent is the rest
abbrev pub decimal_with : Bool → List ℕ → List ℕ → List ℕ → Option Decimal
decimal_with negative whole fraction rest = option_map (with_exponent negative whole fraction) (exponent_of rest)

-- the parts of what stands behind the sign: a whole number, then a fraction, then an exponent
abbrev pub decimal_behind : Bool → List ℕ → Option Decimal
decimal_behind negative bs =
    if is_whole (digits_front bs)
    then option_and_then (λ f. decimal_with negative (digits_front bs) f.0 f.1) (fraction_of (digits_behind bs))
    else None

-- the parts of a text that is a number
abbrev pub decimal_of : List ℕ → Option Decimal
decimal_of text = decimal_behind (split_minus text).0 (split_minus text).1

-- the number that digits write behind those of n
abbrev pub number : ℕ → List ℕ → ℕ
number n [] = n
number n (b ∷ bs) = number (10 * n + (b - digit_zero)) bs

-- n times ten to the k
abbrev pub tens : ℕ → ℕ → ℕ
tens n zero = n
tens n (suc k) = 10 * tens n k

abbrev pub signed : Bool → ℕ → ℤ
signed true k = neg_ℤ (pos k)
signed false k = pos k

-- the factors of ten by which the digits of a decimal are raised and lowered
abbrev pub raised_by : Decimal → ℕ
raised_by d = if d.lower then 0 else number 0 d.exponent

abbrev pub lowered_by : Decimal → ℕ
lowered_by d = length d.fraction + (if d.lower then number 0 d.exponent else 0)

-- the number is that of these digits and this sign, times ten to the `up` and divided by ten to the `down`
abbrev pub IsShifted : Bool → ℕ → ℕ → ℕ → Num → Type 0
IsShifted negative digits up down n = (k : ℕ) × (n.mantissa ≡ signed negative k) × (tens k down ≡ tens digits (up + n.scale))

-- the number has the value that the decimal writes
abbrev pub StandsFor : Num → Decimal → Type 0
StandsFor n d = IsShifted d.negative (number 0 (d.whole ++ d.fraction)) (raised_by d) (lowered_by d) n

-- N is m with zeros behind it, and m has none of its own
abbrev pub IsSignificand : ℕ → ℕ → ℕ → Type 0
IsSignificand n m zeros = (n ≡ tens m zeros) × (m % 10 ≡ 0 → m ≡ 0)

-- how many digits stand before the point and behind it
abbrev pub digit_count : List ℕ → List ℕ → ℕ
digit_count whole fraction = length whole + length fraction

-- w and f are the digits of the whole number and the fraction without the zeros at the end of both
abbrev pub AreTrimmed : List ℕ → List ℕ → List ℕ → List ℕ → Type 0
AreTrimmed whole fraction w f = IsSignificand (number 0 (whole ++ fraction)) (number 0 (w ++ f)) (digit_count whole fraction - digit_count w f)

-- behind so many digits stand zeros alone
abbrev pub HasZerosBehind : List ℕ → ℕ → Type 0
HasZerosBehind ds count = (n : ℕ) → number n ds ≡ tens (number n (take count ds)) (length ds - count)

-- how large the digits of a number of 64 bits may be
abbrev pub most : Bool → ℕ
most true = 9223372036854775808
most false = 9223372036854775807

-- the number with these digits before the point and behind it; none with more than 18 places, or beyond 64 bits
abbrev pub numeral : Bool → List ℕ → List ℕ → Option Num
numeral negative whole places =
    if nat_le (length places) 18
    then option_and_then (λ k. least (signed negative k) (length places)) (at_most (most negative) (Some (number (number 0 whole) places)))
    else None

-- in 64 bits
abbrev pub IsI64 : ℤ → Type 0
IsI64 z = (negsuc 9223372036854775807 ≤ℤ z) × (z ≤ℤ pos 9223372036854775807)

-- the number is so shifted; none where no least form of 64 bits is
abbrev pub Shifts : Option Num → Bool → ℕ → ℕ → ℕ → Type 0
Shifts (Some n) negative digits up down = IsShifted negative digits up down n
Shifts None negative digits up down = (n : Num) → IsLeast n.mantissa n.scale → IsI64 n.mantissa → IsShifted negative digits up down n → ⊥

-- the number has the value of the decimal; none where no least form of 64 bits has it
abbrev pub ValueReads : Option Num → Decimal → Type 0
ValueReads r d = Shifts r d.negative (number 0 (d.whole ++ d.fraction)) (raised_by d) (lowered_by d)

-- the number that the text writes; none where it writes none, or none that has a least form of 64 bits
abbrev pub NumberReads : Option Num → List ℕ → Type 0
NumberReads (Some n) text = (d : Decimal) × (decimal_of text ≡ Some d) × StandsFor n d
NumberReads None text = (d : Decimal) → decimal_of text ≡ Some d → ValueReads None d
