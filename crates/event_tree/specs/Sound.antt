-- What holds of every value that a call made: in every object the keys rise strictly, keys and texts are UTF-8, numbers stand in least form within 64 bits, and times lie within their years.
use Rattle.std.specs.Prelude.{ℕ, ℤ, pos, negsuc, List, [], ◌∷◌, map, Bool, true, ◌&&◌, ◌||◌, not, ◌==◌, nat_le, int_le, int_rem}
use Rattle.std.specs.Ordering.{is_lt, int_eq}
use Rattle.std.specs.Str.{is_utf8}
use Rattle.std.specs.Map.{keys_of}
use Rattle.plain_data.specs.Keys.{text_cmp}
use Rattle.plain_data.specs.Calendar.{first_moment, last_moment}
use Rattle.event_tree.specs.Number.{Num}
use Rattle.event_tree.specs.Values.{Members, on_values}
use Rattle.event_tree.specs.declared.value.Value.{Value}
use Rattle.event_tree.specs.declared.value.Value.TheOpen.{Value-F}
use Rattle.event_tree.specs.declared.value.Value.TheFolds.{fold-Value}

-- in 64 bits
abbrev pub is_i64 : ℤ → Bool
is_i64 z = int_le (negsuc 9223372036854775807) z && int_le z (pos 9223372036854775807)

-- at most 18 places, and no trailing zero where there are places
abbrev pub is_least : ℤ → ℕ → Bool
is_least mantissa scale = nat_le scale 18 && ((scale == 0) || not (int_eq (int_rem mantissa (pos 10)) (pos 0)))

unfoldable pub is_number : Num → Bool
is_number n = is_i64 n.mantissa && is_least n.mantissa n.scale

-- in the years 0001 to 9999
unfoldable pub is_moment : ℤ → Bool
is_moment nanos = int_le first_moment nanos && int_le nanos last_moment

-- UTF-8
unfoldable pub is_text : List ℕ → Bool
is_text bytes = is_utf8 bytes

-- the key is below each of these
abbrev pub is_below : List ℕ → List (List ℕ) → Bool
is_below k [] = true
is_below k (l ∷ ls) = is_lt (text_cmp k l) && is_below k ls

-- each key is below all that come after it
abbrev pub ascend : List (List ℕ) → Bool
ascend [] = true
ascend (k ∷ ks) = is_below k ks && ascend ks

abbrev pub all_true : List Bool → Bool
all_true [] = true
all_true (b ∷ bs) = b && all_true bs

-- UTF-8, each of them
abbrev pub are_texts : List (List ℕ) → Bool
are_texts [] = true
are_texts (k ∷ ks) = is_text k && are_texts ks

-- UTF-8 at each key, and true
abbrev pub all_members_true : List (List ℕ × Bool) → Bool
all_members_true [] = true
all_members_true (m ∷ ms) = (is_text m.0 && m.1) && all_members_true ms

abbrev pub sound_step : Value-F Bool → Bool
sound_step Value-F.Null = true
sound_step (Value-F.Bool b) = true
sound_step (Value-F.Num n) = is_number n
sound_step (Value-F.Text s) = is_text s
sound_step (Value-F.Time t) = is_moment t
sound_step (Value-F.List bs) = all_true bs
sound_step (Value-F.Object ms) = ascend (keys_of ms) && all_members_true ms

unfoldable pub sound : Value → Bool
sound = fold-Value Bool sound_step

abbrev pub items_sound : List Value → Bool
items_sound vs = all_true (map sound vs)

abbrev pub members_sound : Members → Bool
members_sound ms = all_members_true (on_values sound ms)
