-- Characters of ASCII by their names.
use Rattle.std.specs.Prelude.{ℕ, ◌&&◌, Bool, nat_le}

-- `[`
abbrev pub opening_bracket : ℕ
opening_bracket = 91

-- `]`
abbrev pub closing_bracket : ℕ
closing_bracket = 93

-- `{`
abbrev pub opening_brace : ℕ
opening_brace = 123

-- `}`
abbrev pub closing_brace : ℕ
closing_brace = 125

-- `"`
abbrev pub quote : ℕ
quote = 34

-- `\`
abbrev pub backslash : ℕ
backslash = 92

-- `,`
abbrev pub comma : ℕ
comma = 44

-- `:`
abbrev pub colon : ℕ
colon = 58

-- `-`
abbrev pub minus : ℕ
minus = 45

-- `+`
abbrev pub plus : ℕ
plus = 43

-- `.`
abbrev pub point : ℕ
point = 46

-- `%`
abbrev pub percent : ℕ
percent = 37

-- `0`
abbrev pub digit_zero : ℕ
digit_zero = 48

-- `9`
abbrev pub digit_nine : ℕ
digit_nine = 57

-- `e`
abbrev pub small_e : ℕ
small_e = 101

-- `E`
abbrev pub capital_e : ℕ
capital_e = 69

abbrev pub is_digit : ℕ → Bool
is_digit b = nat_le digit_zero b && nat_le b digit_nine
