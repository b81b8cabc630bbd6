-- Offsets from UTC as texts write them (ISO 8601-1, 5.3.4): `Z`, `+hhmm` or `+hh:mm`, with either sign, up to 23:59.
use Rattle.std.specs.Prelude.{ℕ, ◌+◌, ◌*◌, ◌==◌, ◌&&◌, nat_lt, Bool, true, false, List, [], ◌∷◌, length, if◌then◌else◌, Option, Some, None, option_and_then, ℤ, pos, neg_ℤ}
use Rattle.event_tree.specs.Characters.{colon, minus, plus}
use Rattle.event_times.specs.Digits.{Front, digits_in}

-- without the byte that may stand in front
abbrev pub without : ℕ → List ℕ → List ℕ
without b [] = []
without b (c ∷ s) = if c == b then s else c ∷ s

-- the seconds of an offset with this sign
abbrev pub offset_seconds : Bool → ℕ → ℕ → ℤ
offset_seconds west hours minutes = if west then neg_ℤ (pos (hours * 3600 + minutes * 60)) else pos (hours * 3600 + minutes * 60)

abbrev pub clock_offset : Bool → ℕ → ℕ → List ℕ → Front ℤ
clock_offset west hours minutes s = if nat_lt hours 24 && nat_lt minutes 60 then Some (offset_seconds west hours minutes, s) else None

-- hours and minutes behind a sign, with or without a colon between
abbrev pub hours_minutes : Bool → List ℕ → Front ℤ
hours_minutes west s = option_and_then (λ h. option_and_then (λ m. clock_offset west h.0 m.0 m.1) (digits_in 2 (without colon h.1))) (digits_in 2 s)

-- the offset in front, in seconds, positive east of Greenwich
abbrev pub zone_in : List ℕ → Front ℤ
zone_in [] = None
zone_in (b ∷ s) =
    if b == 90 then Some (pos 0, s)
    else (if b == plus then hours_minutes false s
    else (if b == minus then hours_minutes true s
    else None))

-- the whole text as hours and minutes with a colon between, as `+02:00`, in seconds
abbrev pub whole_in : Front ℤ → Option ℤ
whole_in None = None
whole_in (Some (z, [])) = Some z
whole_in (Some (z, b ∷ s)) = None

abbrev pub offset_of : List ℕ → Option ℤ
offset_of s = if length s == 6 then whole_in (zone_in s) else None
