-- The bytes of values and of events, part by part. Numbers are big endian, and counts and lengths have four bytes.
use Rattle.std.specs.Prelude.{ℕ, ℤ, pos, List, [], ◌∷◌, ◌++◌, length, map, if◌then◌else◌, unsigned_abs}
use Rattle.std.specs.Int.{w64, cast_unsigned, int_div_euclid, int_rem_euclid}
use Rattle.byteorder.specs.Endian.{big_bytes}
use Rattle.event_tree.specs.Number.{Num}
use Rattle.event_tree.specs.Values.{on_values}
use Rattle.event_tree.specs.Events.{Ev}
use Rattle.event_tree.specs.declared.value.Value.{Value, out-Value}
use Rattle.event_tree.specs.declared.value.Value.TheOpen.{Value-F}
use Rattle.event_tree.specs.declared.value.Value.TheFolds.{fold-Value}
use Rattle.crc_frame.specs.Fronts.{count_bytes, run_bytes}

-- What the bytes of an event are made of: a tag with the bytes of a value whose length the tag says; a text, with its tag and its length; the tag of a list or of an object, with its count; the count of an event's object, which has no tag; and a key, with its length.
pub data Part : Type 0 where
  plain : ℕ → List ℕ → Part
  text : List ℕ → Part
  many : ℕ → ℕ → Part
  count : ℕ → Part
  key : List ℕ → Part

-- the tags of values
abbrev pub null_tag : ℕ
null_tag = 0

abbrev pub false_tag : ℕ
false_tag = 1

abbrev pub true_tag : ℕ
true_tag = 2

abbrev pub number_tag : ℕ
number_tag = 3

abbrev pub text_tag : ℕ
text_tag = 4

abbrev pub time_tag : ℕ
time_tag = 5

abbrev pub list_tag : ℕ
list_tag = 6

abbrev pub object_tag : ℕ
object_tag = 7

abbrev pub part_bytes : Part → List ℕ
part_bytes (plain tag bytes) = tag ∷ bytes
part_bytes (text bytes) = text_tag ∷ run_bytes bytes
part_bytes (many tag n) = tag ∷ count_bytes n
part_bytes (count n) = count_bytes n
part_bytes (key bytes) = run_bytes bytes

-- the bytes of parts, one behind the other
abbrev pub bytes_of : List Part → List ℕ
bytes_of [] = []
bytes_of (p ∷ ps) = part_bytes p ++ bytes_of ps

-- the mantissa in two's complement, and the scale
unfoldable pub number_bytes : Num → List ℕ
number_bytes n = big_bytes 8 (cast_unsigned w64 n.mantissa) ++ n.scale ∷ []

abbrev pub second : ℤ
second = pos 1000000000

-- the seconds, rounded down, in two's complement, and the nanoseconds since then
unfoldable pub time_bytes : ℤ → List ℕ
time_bytes nanos = big_bytes 8 (cast_unsigned w64 (int_div_euclid nanos second)) ++ big_bytes 4 (unsigned_abs (int_rem_euclid nanos second))

abbrev pub items_parts : List (List Part) → List Part
items_parts [] = []
items_parts (ps ∷ pss) = ps ++ items_parts pss

-- each key, and its value
abbrev pub members_parts : List (List ℕ × List Part) → List Part
members_parts [] = []
members_parts (m ∷ ms) = key m.0 ∷ (m.1 ++ members_parts ms)

abbrev pub parts_step : Value-F (List Part) → List Part
parts_step Value-F.Null = plain null_tag [] ∷ []
parts_step (Value-F.Bool b) = plain (if b then true_tag else false_tag) [] ∷ []
parts_step (Value-F.Num n) = plain number_tag (number_bytes n) ∷ []
parts_step (Value-F.Text s) = text s ∷ []
parts_step (Value-F.Time t) = plain time_tag (time_bytes t) ∷ []
parts_step (Value-F.List pss) = many list_tag (length pss) ∷ items_parts pss
parts_step (Value-F.Object ms) = many object_tag (length ms) ∷ members_parts ms

-- the parts of a value
unfoldable pub parts : Value → List Part
parts = fold-Value (List Part) parts_step

-- the one spelling of a value
abbrev pub spelling : Value → List ℕ
spelling value = bytes_of (parts value)

-- the bytes of the items of a list, and of the members of an object
abbrev pub items_bytes : List Value → List ℕ
items_bytes vs = bytes_of (items_parts (map parts vs))

abbrev pub members_bytes : List (List ℕ × Value) → List ℕ
members_bytes ms = bytes_of (members_parts (on_values parts ms))

abbrev pub object_parts_in : Value-F Value → List Part
object_parts_in Value-F.Null = []
object_parts_in (Value-F.Bool b) = []
object_parts_in (Value-F.Num n) = []
object_parts_in (Value-F.Text s) = []
object_parts_in (Value-F.Time t) = []
object_parts_in (Value-F.List vs) = []
object_parts_in (Value-F.Object ms) = count (length ms) ∷ members_parts (on_values parts ms)

-- the parts of an object of an event, which has no tag
abbrev pub object_parts : Value → List Part
object_parts object = object_parts_in (out-Value object)

-- the parts of an event: those of `fields`, and then those of `meta`
abbrev pub event_parts : Ev → List Part
event_parts event = object_parts event.fields ++ object_parts event.meta

-- the one spelling of an event
unfoldable pub event_spelling : Ev → List ℕ
event_spelling event = bytes_of (event_parts event)
