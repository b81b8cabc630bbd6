-- Numbers, sizes and ids as operators write them: this project's own rules, after those of Logstash's settings.
use Rattle.std.specs.Prelude.{ℕ, ◌*◌, ◌==◌, ◌&&◌, ◌||◌, not, nat_le, Bool, List, length, take, drop, if◌then◌else◌, Option, Some, None, option_map, option_and_then, unwrap_or, codes, bytes_eq}
use Rattle.std.specs.List.{list_all, position}
use Rattle.std.specs.Char.{is_ascii_digit, is_ascii_alphanumeric}
use Rattle.std.specs.Str.Parse.{digits_value}

-- the number that a text writes, of one decimal digit or more and nothing else
abbrev pub number_of : List ℕ → Option ℕ
number_of s = if not (length s == 0) && list_all is_ascii_digit s then Some (digits_value 10 s) else None

-- a number that lies in a range
abbrev pub within : ℕ → ℕ → ℕ → Option ℕ
within low high n = if nat_le low n && nat_le n high then Some n else None

abbrev pub number_in : ℕ → ℕ → List ℕ → Option ℕ
number_in low high s = option_and_then (within low high) (number_of s)

-- 1,024 GiB
abbrev pub max_size : ℕ
max_size = 1099511627776

-- the bytes of a unit, in steps of 1,024; no unit is bytes
abbrev pub unit_of : List ℕ → Option ℕ
unit_of s =
    if bytes_eq s (codes "") || bytes_eq s (codes "b") then Some 1
    else (if bytes_eq s (codes "kb") then Some 1024
    else (if bytes_eq s (codes "mb") then Some 1048576
    else (if bytes_eq s (codes "gb") then Some 1073741824
    else None)))

abbrev pub is_other : ℕ → Bool
is_other b = not (is_ascii_digit b)

-- how many digits stand in front
abbrev pub digits_len : List ℕ → ℕ
digits_len s = unwrap_or (position is_other s) (length s)

-- a number of a unit
abbrev pub scaled : Option ℕ → Option ℕ → Option ℕ
scaled unit count = option_and_then (λ u. option_map (λ n. n * u) count) unit

-- the bytes that a size names: digits, and a unit behind them
abbrev pub size_of : List ℕ → Option ℕ
size_of s = scaled (unit_of (drop (digits_len s) s)) (number_of (take (digits_len s) s))

-- the same in its range
abbrev pub size_in : ℕ → List ℕ → Option ℕ
size_in low s = option_and_then (within low max_size) (size_of s)

-- a letter of ASCII, a digit, `_` or `-`
abbrev pub is_in_id : ℕ → Bool
is_in_id b = is_ascii_alphanumeric b || b == 95 || b == 45

-- 1 to 64 of them
abbrev pub is_id : List ℕ → Bool
is_id s = not (length s == 0) && nat_le (length s) 64 && list_all is_in_id s
