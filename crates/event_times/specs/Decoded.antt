-- What the members of a decoded JSON object (RFC 8259, section 4) become in an event, as this project's rules for inputs have it.
use Rattle.std.specs.Prelude.{ℕ, List, [], ◌∷◌, ◌++◌, Bool, true, false, not, if◌then◌else◌, codes, bytes_eq, Option, Some, None, option_and_then, option_map, is_some, ℤ, pos, Result, Ok, Err}
use Rattle.std.specs.List.{list_any}
use Rattle.plain_data.specs.Members.{get_member}
use Rattle.event_tree.specs.Values.{Members}
use Rattle.event_tree.specs.Events.{Way, object}
use Rattle.event_tree.specs.Paths.{over}
use Rattle.event_tree.specs.PathTexts.{way_of}
use Rattle.event_tree.specs.declared.value.Value.{Value, out-Value}
use Rattle.event_tree.specs.declared.value.Value.TheOpen.{Value-F}
use Rattle.event_tree.specs.declared.value.Value.TheVariants as v
use Rattle.event_json.specs.Reading.{Fault, read}
use Rattle.event_times.specs.Iso8601.{iso_moment}
use Rattle.event_text.specs.Options.{values}

abbrev pub found : Result Value Fault → Option Value
found (Ok x) = Some x
found (Err fault) = None

-- the value of a JSON text of at most 100 levels
abbrev pub json_in : List ℕ → Option Value
json_in s = found (read 100 s)

abbrev text_in : Value-F Value → Option (List ℕ)
text_in Value-F.Null = None
text_in (Value-F.Bool b) = None
text_in (Value-F.Num n) = None
text_in (Value-F.Text s) = Some s
text_in (Value-F.Time t) = None
text_in (Value-F.List xs) = None
text_in (Value-F.Object ms) = None

-- the text of a value that is one
abbrev pub text_of : Value → Option (List ℕ)
text_of x = text_in (out-Value x)

abbrev pub is_other : Value → Bool
is_other x = not (is_some (text_of x))

-- the moment that a text of ISO 8601 names, in UTC where it has no offset
abbrev pub moment_in : Value → Option ℤ
moment_in x = option_and_then (iso_moment (pos 0)) (text_of x)

abbrev are_tags_in : Value-F Value → Bool
are_tags_in Value-F.Null = false
are_tags_in (Value-F.Bool b) = false
are_tags_in (Value-F.Num n) = false
are_tags_in (Value-F.Text s) = true
are_tags_in (Value-F.Time t) = false
are_tags_in (Value-F.List xs) = not (list_any is_other xs)
are_tags_in (Value-F.Object ms) = false

-- a text, or a list of texts
abbrev pub are_tags : Value → Bool
are_tags x = are_tags_in (out-Value x)

-- the field of this name
abbrev pub named : List ℕ → Way
named k = way_of (k ∷ [])

abbrev pub placed_time : Value → Way × Value
placed_time x = over (λ moment. (named (codes "@timestamp"), v.Time moment)) (named (codes "_@timestamp"), x) (moment_in x)

abbrev pub placed_tags : Value → Way × Value
placed_tags x = if are_tags x then (named (codes "tags"), v.List (values x)) else (named (codes "_tags"), x)

abbrev pub placed_metadata : List ℕ × Value → Option (Way × Value)
placed_metadata m = option_map (λ x. (named m.0, m.1)) (object m.1)

-- where a member is put, and as which value; none where it is dropped
abbrev pub placed : List ℕ × Value → Option (Way × Value)
placed m =
    if bytes_eq m.0 (codes "@timestamp") then Some (placed_time m.1)
    else (if bytes_eq m.0 (codes "tags") then Some (placed_tags m.1)
    else (if bytes_eq m.0 (codes "@metadata") then placed_metadata m
    else Some (named m.0, m.1)))

abbrev is_no_time : Value → Bool
is_no_time x = not (is_some (moment_in x))

abbrev are_no_tags : Value → Bool
are_no_tags x = not (are_tags x)

-- the tag, where the member is there and fails
abbrev tag_of : List ℕ → (Value → Bool) → Option Value → List (List ℕ)
tag_of tag fails None = []
tag_of tag fails (Some x) = if fails x then tag ∷ [] else []

-- the tags that tell of members which are not what they should be
abbrev pub failure_tags : Members → List (List ℕ)
failure_tags ms =
    tag_of (codes "_timestampparsefailure") is_no_time (get_member (codes "@timestamp") ms)
    ++ tag_of (codes "_tagsparsefailure") are_no_tags (get_member (codes "tags") ms)
