-- Bytes as values, read once from the front: what was read and the bytes behind it, or how many bytes are left at the place of the fault.
use Rattle.std.specs.Prelude.{ℕ, zero, suc, ◌+◌, ◌-◌, ◌==◌, ℤ, pos, ◌+ℤ◌, ◌*ℤ◌, List, [], ◌∷◌, length, drop, Bool, true, false, ◌&&◌, if◌then◌else◌, nat_lt, Option, Some, None, Result, Ok, Err, int_le}
use Rattle.std.specs.Int.{w64, cast_signed}
use Rattle.std.specs.Ordering.{is_lt, int_eq}
use Rattle.std.specs.Str.{is_utf8}
use Rattle.byteorder.specs.Endian.{big_number}
use Rattle.plain_data.specs.Keys.{text_cmp}
use Rattle.plain_data.specs.Calendar.{first_moment, last_moment}
use Rattle.event_tree.specs.Number.{Num, least}
use Rattle.event_tree.specs.Values.{Members}
use Rattle.event_tree.specs.Events.{Ev, both}
use Rattle.event_tree.specs.declared.value.Value.{Value}
use Rattle.event_tree.specs.declared.value.Value.TheVariants as v
use Rattle.element_code.specs.Parts.{null_tag, false_tag, true_tag, number_tag, text_tag, time_tag, list_tag, object_tag}
use Rattle.crc_frame.specs.Fronts.{◌>>=◌, Reads, front_at, number_at, run_at, repeated}

-- what fits its tag, or the fault at the tag, which stands before the bytes behind it
abbrev pub fits : List ℕ → Option Value → Result Value ℕ
fits behind None = Err (length behind + 1)
fits behind (Some x) = Ok x

abbrev pub same_number : ℤ → ℕ → Option Num → Option Value
same_number mantissa scale None = None
same_number mantissa scale (Some n) = if int_eq n.mantissa mantissa && (n.scale == scale) then Some (v.Num n) else None

-- the number whose least form this is
abbrev pub exact_number : ℤ → ℕ → Option Value
exact_number mantissa scale = same_number mantissa scale (least mantissa scale)

abbrev pub number_in : List ℕ → Option Value
number_in bytes = exact_number (cast_signed w64 (big_number 8 bytes)) (big_number 1 (drop 8 bytes))

abbrev pub is_moment : ℤ → Bool
is_moment nanos = int_le first_moment nanos && int_le nanos last_moment

abbrev pub moment_of : ℤ → ℕ → Option Value
moment_of seconds nanos =
    if nat_lt nanos 1000000000 && is_moment (seconds *ℤ pos 1000000000 +ℤ pos nanos)
    then Some (v.Time (seconds *ℤ pos 1000000000 +ℤ pos nanos))
    else None

abbrev pub time_in : List ℕ → Option Value
time_in bytes = moment_of (cast_signed w64 (big_number 8 bytes)) (big_number 4 (drop 8 bytes))

abbrev pub text_in : List ℕ → Option Value
text_in bytes = if is_utf8 bytes then Some (v.Text bytes) else None

-- a value that holds no others, behind its tag
abbrev pub leaf_at : ℕ → List ℕ → Result (Value × List ℕ) ℕ
leaf_at tag rest =
    if tag == null_tag then Ok (v.Null, rest)
    else (if tag == false_tag then Ok (v.Bool false, rest)
    else (if tag == true_tag then Ok (v.Bool true, rest)
    else (if tag == number_tag then (front_at 9 rest >>= λ x. (fits rest (number_in x.0) >>= λ d. Ok (d, x.1)))
    else (if tag == text_tag then (run_at rest >>= λ x. (fits rest (text_in x.0) >>= λ d. Ok (d, x.1)))
    else (if tag == time_tag then (front_at 12 rest >>= λ x. (fits rest (time_in x.0) >>= λ d. Ok (d, x.1)))
    else Err (length rest + 1))))))

abbrev pub is_above : Option (List ℕ) → List ℕ → Bool
is_above None k = true
is_above (Some last) k = is_lt (text_cmp last k)

abbrev pub last_key : Members → Option (List ℕ)
last_key [] = None
last_key (m ∷ []) = Some m.0
last_key (m ∷ n ∷ ms) = last_key (n ∷ ms)

-- a key above the last one
abbrev pub key_at : Option (List ℕ) → List ℕ → Result (List ℕ × List ℕ) ℕ
key_at last bytes = run_at bytes >>= λ k. (if is_utf8 k.0 && is_above last k.0 then Ok k else Err (length bytes - 4))

abbrev pub members_at : Reads Value → Option (List ℕ) → ℕ → List ℕ → Result (Members × List ℕ) ℕ
members_at read last zero bytes = Ok ([], bytes)
members_at read last (suc n) bytes =
    key_at last bytes >>= λ k. (read k.1 >>= λ x.
    (members_at read (Some k.0) n x.1 >>= λ ms. Ok ((k.0, x.0) ∷ ms.0, ms.1)))

unfoldable pub list_at : Reads Value → List ℕ → Result (List Value × List ℕ) ℕ
list_at read bytes = number_at 4 bytes >>= λ n. repeated read n.0 n.1

unfoldable pub object_at : Reads Value → List ℕ → Result (Members × List ℕ) ℕ
object_at read bytes = number_at 4 bytes >>= λ n. members_at read None n.0 n.1

abbrev pub as_list : Result (List Value × List ℕ) ℕ → Result (Value × List ℕ) ℕ
as_list read = read >>= λ x. Ok (v.List x.0, x.1)

abbrev pub as_object : Result (Members × List ℕ) ℕ → Result (Value × List ℕ) ℕ
as_object read = read >>= λ x. Ok (v.Object x.0, x.1)

-- a value of at most so many levels
unfoldable pub value_at : ℕ → Reads Value
value_at levels [] = Err 0
value_at zero (tag ∷ rest) = leaf_at tag rest
value_at (suc levels) (tag ∷ rest) =
    if tag == list_tag then as_list (list_at (value_at levels) rest)
    else (if tag == object_tag then as_object (object_at (value_at levels) rest)
    else leaf_at tag rest)

-- nothing stands behind an event
abbrev pub whole : Members → Members → List ℕ → Result Ev ℕ
whole fields meta [] = Ok (both (v.Object fields) (v.Object meta))
whole fields meta (b ∷ bs) = Err (length bs + 1)

unfoldable pub event_at : List ℕ → Result Ev ℕ
event_at bytes = object_at (value_at 127) bytes >>= λ fields. (object_at (value_at 127) fields.1 >>= λ meta. whole fields.0 meta.0 meta.1)
