-- What a value becomes of another kind, as this project's table of the filter mutate has it.
use Rattle.std.specs.Prelude.{ℕ, zero, suc, ℤ, pos, ◌==◌, ◌&&◌, ◌||◌, not, int_div, List, codes, bytes_eq, Bool, true, false, if◌then◌else◌, Option, Some, None, option_map}
use Rattle.std.specs.List.{filter}
use Rattle.std.specs.Ordering.{int_eq}
use Rattle.event_tree.specs.Number.{Num}
use Rattle.event_tree.specs.Paths.{over}
use Rattle.event_tree.specs.declared.value.Value.{Value, out-Value}
use Rattle.event_tree.specs.declared.value.Value.TheOpen.{Value-F}
use Rattle.event_tree.specs.declared.value.Value.TheVariants as v
use Rattle.event_json.specs.Numbers.{number_of}
use Rattle.event_text.specs.Options.{each_in, items}
use Rattle.event_text.specs.Shown.{shown}
use Rattle.filter_settings.specs.declared.conversion.Conversion.{Conversion}
use Rattle.filter_settings.specs.declared.conversion.Conversion.TheVariants as to
use Rattle.filter_settings.specs.declared.field_changes.Change.{Change}
use Rattle.filter_settings.specs.declared.field_changes.Change.TheVariants as c

abbrev pub is_no_comma : ℕ → Bool
is_no_comma b = not (b == 44)

abbrev pub without_commas : List ℕ → List ℕ
without_commas s = filter is_no_comma s

-- the number that a text writes once its commas are removed, as JSON writes numbers
abbrev pub number_in : List ℕ → Option Num
number_in s = number_of (without_commas s)

-- digits without the last, so many as the number says
abbrev pub fewer_digits : ℕ → ℤ → ℤ
fewer_digits zero m = m
fewer_digits (suc k) m = fewer_digits k (int_div m (pos 10))

-- a number without its fraction
abbrev pub whole : Num → Num
whole n = record { mantissa = fewer_digits n.scale n.mantissa; scale = 0 }

-- 1 and 0
abbrev pub flag_number : Bool → Num
flag_number b = record { mantissa = pos (if b then 1 else 0); scale = 0 }

abbrev pub set_number : Option Num → Change
set_number None = c.Fail
set_number (Some n) = c.Set (v.Num n)

abbrev pub to_integer : Value-F Value → Change
to_integer Value-F.Null = c.Fail
to_integer (Value-F.Bool b) = c.Set (v.Num (flag_number b))
to_integer (Value-F.Num n) = c.Set (v.Num (whole n))
to_integer (Value-F.Text s) = set_number (option_map whole (number_in s))
to_integer (Value-F.Time t) = c.Fail
to_integer (Value-F.List xs) = c.Fail
to_integer (Value-F.Object ms) = c.Fail

abbrev pub to_float : Value-F Value → Change
to_float Value-F.Null = c.Fail
to_float (Value-F.Bool b) = c.Set (v.Num (flag_number b))
to_float (Value-F.Num n) = c.Keep
to_float (Value-F.Text s) = set_number (number_in s)
to_float (Value-F.Time t) = c.Fail
to_float (Value-F.List xs) = c.Fail
to_float (Value-F.Object ms) = c.Fail

-- the text that the value is shown by
abbrev pub to_text : Value → Change
to_text x = c.Set (v.Text (shown x))

abbrev pub is_true : List ℕ → Bool
is_true s = bytes_eq s (codes "true") || bytes_eq s (codes "t") || bytes_eq s (codes "yes") || bytes_eq s (codes "y") || bytes_eq s (codes "1") || bytes_eq s (codes "1.0")

abbrev pub is_false : List ℕ → Bool
is_false s = bytes_eq s (codes "false") || bytes_eq s (codes "f") || bytes_eq s (codes "no") || bytes_eq s (codes "n") || bytes_eq s (codes "0") || bytes_eq s (codes "0.0") || bytes_eq s (codes "")

-- the whole number k
abbrev pub is_whole : ℤ → Num → Bool
is_whole k n = n.scale == 0 && int_eq n.mantissa k

-- a value that is neither stays as it is, which is no failure
abbrev pub set_flag : Bool → Bool → Change
set_flag holds fails = if holds then c.Set (v.Bool true) else (if fails then c.Set (v.Bool false) else c.Keep)

abbrev pub to_flag : Value-F Value → Change
to_flag Value-F.Null = c.Keep
to_flag (Value-F.Bool b) = c.Keep
to_flag (Value-F.Num n) = set_flag (is_whole (pos 1) n) (is_whole (pos 0) n)
to_flag (Value-F.Text s) = set_flag (is_true s) (is_false s)
to_flag (Value-F.Time t) = c.Keep
to_flag (Value-F.List xs) = c.Keep
to_flag (Value-F.Object ms) = c.Keep

-- what one value becomes
abbrev pub one_converted : Conversion → Value → Change
one_converted to.Integer x = to_integer (out-Value x)
one_converted to.Float x = to_float (out-Value x)
one_converted to.Text x = to_text x
one_converted to.Boolean x = to_flag (out-Value x)

-- an item behind a change; none where it fails
abbrev pub item_behind : Value → Change → Option Value
item_behind x c.Keep = Some x
item_behind x (c.Set y) = Some y
item_behind x c.Fail = None

abbrev pub item_converted : Conversion → Value → Option Value
item_converted k x = item_behind x (one_converted k x)

abbrev pub set_list : Option (List Value) → Change
set_list None = c.Fail
set_list (Some ys) = c.Set (v.List ys)

-- of a list each item is converted; one that fails leaves the whole list
abbrev pub converted : Conversion → Value → Change
converted k x = over (λ xs. set_list (each_in (item_converted k) xs)) (one_converted k x) (items x)
