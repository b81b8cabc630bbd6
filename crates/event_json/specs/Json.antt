-- The one compact JSON text of a value: RFC 8259, with no blank and keys in byte order.
use Rattle.std.specs.Prelude.{ℕ, zero, suc, ◌+◌, ◌-◌, ◌/◌, ◌%◌, ℤ, pos, negsuc, unsigned_abs, List, [], ◌∷◌, ◌++◌, length, take, drop, map, Bool, true, false, ◌==◌, nat_lt, if◌then◌else◌, flat_map, codes, decimal}
use Rattle.event_tree.specs.Characters.{backslash, closing_brace, closing_bracket, colon, comma, digit_zero, minus, opening_brace, opening_bracket, point, quote}
use Rattle.event_json.specs.Characters.{backspace, carriage_return, form_feed, line_feed, small_b, small_f, small_n, small_r, small_t, small_u, tab}
use Rattle.event_tree.specs.Number.{Num}
use Rattle.event_tree.specs.Values.{Members, on_values}
use Rattle.event_tree.specs.declared.value.Value.{Value}
use Rattle.event_tree.specs.declared.value.Value.TheOpen.{Value-F}
use Rattle.event_tree.specs.declared.value.Value.TheFolds.{fold-Value}
use Rattle.event_json.specs.TimeText.{time_text_of}

-- a digit in base 16, in lower case
abbrev pub hex_digit : ℕ → ℕ
hex_digit n = if nat_lt n 10 then 48 + n else 87 + n

-- how a byte of a string is written (section 7): with a short escape where there is one, a control character by its number, any other as it is
abbrev pub escaped : ℕ → List ℕ
escaped b =
    if b == quote then backslash ∷ quote ∷ []
    else (if b == backslash then backslash ∷ backslash ∷ []
    else (if b == backspace then backslash ∷ small_b ∷ []
    else (if b == tab then backslash ∷ small_t ∷ []
    else (if b == line_feed then backslash ∷ small_n ∷ []
    else (if b == form_feed then backslash ∷ small_f ∷ []
    else (if b == carriage_return then backslash ∷ small_r ∷ []
    else (if nat_lt b 32 then backslash ∷ small_u ∷ digit_zero ∷ digit_zero ∷ hex_digit (b / 16) ∷ hex_digit (b % 16) ∷ []
    else b ∷ [])))))))

-- a string (section 7)
abbrev pub quoted : List ℕ → List ℕ
quoted s = quote ∷ (flat_map escaped s ++ quote ∷ [])

abbrev pub zeros : ℕ → List ℕ
zeros zero = []
zeros (suc n) = digit_zero ∷ zeros n

-- the decimal digits of n, with zeros in front so that there are at least so many
abbrev pub padded : ℕ → ℕ → List ℕ
padded least n = zeros (least - length (decimal n)) ++ decimal n

abbrev pub sign_of : ℤ → List ℕ
sign_of (pos n) = []
sign_of (negsuc n) = minus ∷ []

-- a point before the last of the digits, so many as there are places
abbrev pub pointed : ℕ → List ℕ → List ℕ
pointed zero digits = digits
pointed (suc places) digits = take (length digits - suc places) digits ++ point ∷ drop (length digits - suc places) digits

-- the same where the digits may be too few: zeros stand in front then
abbrev pub pointed_digits : ℕ → List ℕ → List ℕ
pointed_digits places digits = pointed places (zeros (places + 1 - length digits) ++ digits)

-- a number (section 6): its decimal text, with no exponent
unfoldable pub number_text : Num → List ℕ
number_text n = sign_of n.mantissa ++ pointed n.scale (padded (n.scale + 1) (unsigned_abs n.mantissa))

-- a comma, where something stands before
abbrev pub comma_if : Bool → List ℕ
comma_if later = if later then comma ∷ [] else []

-- the items of an array (section 5), with the bracket that ends it
abbrev pub items_json : Bool → List (List ℕ) → List ℕ
items_json later [] = closing_bracket ∷ []
items_json later (d ∷ ds) = comma_if later ++ (d ++ items_json true ds)

-- the members of an object (section 4), with the brace that ends it
abbrev pub members_json : Bool → List (List ℕ × List ℕ) → List ℕ
members_json later [] = closing_brace ∷ []
members_json later (m ∷ ms) = comma_if later ++ (quoted m.0 ++ colon ∷ (m.1 ++ members_json true ms))

-- a time, which stands in quotes
abbrev pub quoted_time : ℤ → List ℕ
quoted_time t = quote ∷ (time_text_of t ++ quote ∷ [])

abbrev pub json_step : Value-F (List ℕ) → List ℕ
json_step Value-F.Null = codes "null"
json_step (Value-F.Bool b) = if b then codes "true" else codes "false"
json_step (Value-F.Num n) = number_text n
json_step (Value-F.Text s) = quoted s
json_step (Value-F.Time t) = quoted_time t
json_step (Value-F.List ds) = opening_bracket ∷ items_json false ds
json_step (Value-F.Object ms) = opening_brace ∷ members_json false ms

-- the text of a value; a time is written as its text in quotes
unfoldable pub json : Value → List ℕ
json = fold-Value (List ℕ) json_step

-- the texts of the items of an array, and of the members of an object, each with what ends it
abbrev pub items_text : List Value → List ℕ
items_text vs = items_json false (map json vs)

abbrev pub members_text : Members → List ℕ
members_text ms = members_json false (on_values json ms)
