-- The parts of a text of which tokens are made. Each length is a number of bytes.
use Rattle.std.specs.Prelude.{◌≡◌, ◌<◌, ℕ, suc, ◌+◌, ◌-◌, ◌==◌, ◌&&◌, ◌||◌, not, nat_le, Bool, true, false, if◌then◌else◌, List, [], ◌∷◌, length, take, drop, slice_index, Option, Some, None, option_map}
use Rattle.event_tree.specs.Number.{Num}
use Rattle.event_tree.specs.NumberTexts.{is_digit, numeral}
use Rattle.config_lex.specs.declared.bytes.ByteTest.{ByteTest}
use Rattle.config_lex.specs.declared.bytes.ByteTest.TheVariants as test

-- space, tab, carriage return and newline
abbrev pub is_blank : ℕ → Bool
is_blank b = b == 32 || b == 9 || b == 13 || b == 10

-- a letter of ASCII, or `_`
abbrev pub is_letter : ℕ → Bool
is_letter b = (nat_le 97 b && nat_le b 122) || (nat_le 65 b && nat_le b 90) || b == 95

-- what a word goes on with: a letter, a digit, and where dashes may stand `-`
abbrev pub is_in_word : Bool → ℕ → Bool
is_in_word dashes b = is_letter b || is_digit b || (dashes && b == 45)

-- what a part of a selector may have: neither `[` nor `]`, comma, quote or `#`
abbrev pub is_in_part : ℕ → Bool
is_in_part b = not (b == 91 || b == 93 || b == 44 || b == 34 || b == 39 || b == 35)

-- the tests of the bytes of a word, of a number, and of a selector's part
abbrev pub passes : ByteTest → ℕ → Bool
passes (test.InWord dashes) = is_in_word dashes
passes test.IsDigit = is_digit
passes test.InPart = is_in_part

-- the byte stands at this place
abbrev pub HasByte : ℕ → List ℕ → ℕ → Type 0
HasByte b s i = (i < length s) × (slice_index s i ≡ b)

-- something stands between these places, and it ends in ASCII
abbrev pub EndsInAscii : List ℕ → ℕ → ℕ → Type 0
EndsInAscii s from end = (from < end) × (slice_index s (end - 1) < 128)

-- the end is behind the first byte, where that is a letter
abbrev pub IsBehindLetter : List ℕ → ℕ → ℕ → Type 0
IsBehindLetter s from end = from < length s → is_letter (slice_index s from) ≡ true → from < end

-- the first byte is this one
abbrev pub begins_with : ℕ → List ℕ → Bool
begins_with c [] = false
begins_with c (b ∷ s) = b == c

abbrev pub begins_digit : List ℕ → Bool
begins_digit [] = false
begins_digit (b ∷ s) = is_digit b

-- how many bytes in front pass a test
unfoldable pub passing : (ℕ → Bool) → List ℕ → ℕ
passing test [] = 0
passing test (b ∷ s) = if test b then suc (passing test s) else 0

-- how many bytes in front are blanks and comments; a comment goes from `#` (35) to the end of its line, and `inside` says whether the text begins in one
unfoldable pub skip : Bool → List ℕ → ℕ
skip inside [] = 0
skip true (b ∷ s) = suc (skip (not (b == 10)) s)
skip false (b ∷ s) = if is_blank b then suc (skip false s) else (if b == 35 then suc (skip true s) else 0)

-- how many bytes stand before the closing byte, which is none behind a backslash (92); `escaped` says whether a backslash stands in front
unfoldable pub closing : ℕ → Bool → List ℕ → Option ℕ
closing c escaped [] = None
closing c escaped (b ∷ s) = if b == c && not escaped then Some 0 else option_map suc (closing c (b == 92) s)

-- at this place stands a backslash, and a `/` (47) behind it
abbrev pub is_escape : List ℕ → ℕ → Bool
is_escape s i = slice_index s i == 92 && begins_with 47 (drop (i + 1) s)

-- without the backslash before each `/` (47)
unfoldable pub unescaped : List ℕ → List ℕ
unescaped [] = []
unescaped (b ∷ s) = if b == 92 && begins_with 47 s then unescaped s else b ∷ unescaped s

-- a number: an optional `-` (45), digits, and an optional point (46) with digits
abbrev pub sign_length : List ℕ → ℕ
sign_length s = if begins_with 45 s then 1 else 0

abbrev pub point_length : List ℕ → ℕ
point_length [] = 0
point_length (b ∷ s) = if b == 46 && begins_digit s then suc (passing is_digit s) else 0

abbrev pub whole_length : List ℕ → ℕ
whole_length s = sign_length s + passing is_digit (drop (sign_length s) s)

abbrev pub number_length : List ℕ → ℕ
number_length s = whole_length s + point_length (drop (whole_length s) s)

abbrev pub begins_number : List ℕ → Bool
begins_number s = begins_digit (drop (sign_length s) s)

-- where a number begins, something stands up to the end, which is ASCII
abbrev pub EndsNumber : List ℕ → ℕ → ℕ → Type 0
EndsNumber s at end = begins_number (drop at s) ≡ true → EndsInAscii s at end

-- a digit before digits that end in no zero
abbrev pub zeros_behind : ℕ → List ℕ → List ℕ
zeros_behind b [] = if b == 48 then [] else b ∷ []
zeros_behind b (c ∷ s) = b ∷ c ∷ s

-- without the zeros at the end
abbrev pub without_zeros : List ℕ → List ℕ
without_zeros [] = []
without_zeros (b ∷ s) = zeros_behind b (without_zeros s)

-- the number that a spelling stands for: zeros in front, and those at the end behind a point, make no difference; none with more than 18 other places, or beyond 64 bits
abbrev pub number_of : List ℕ → Option Num
number_of s =
    numeral (begins_with 45 s) (take (passing is_digit (drop (sign_length s) s)) (drop (sign_length s) s)) (without_zeros (drop (suc (whole_length s)) s))

-- a part of a selector: `[` (91), one byte or more, `]` (93); the length is that of what stands between
abbrev pub part_length : List ℕ → Option ℕ
part_length [] = None
part_length (b ∷ s) = if b == 91 && not (passing is_in_part s == 0) && begins_with 93 (drop (passing is_in_part s) s) then Some (passing is_in_part s) else None
