-- The filter split, as this project's table of plugins has it.
use Rattle.std.specs.Prelude.{ℕ, List, [], ◌∷◌, map, length, Bool, true, false, nat_lt, if◌then◌else◌, codes, bytes_eq, Option, Some, None, option_and_then}
use Rattle.std.specs.List.{filter}
use Rattle.event_tree.specs.Events.{Ev, Way, to, event_at}
use Rattle.event_tree.specs.Paths.{over}
use Rattle.event_tree.specs.declared.value.Value.{Value, out-Value}
use Rattle.event_tree.specs.declared.value.Value.TheOpen.{Value-F}
use Rattle.event_tree.specs.declared.value.Value.TheVariants as v
use Rattle.event_text.specs.Options.{with_options, no_options, set_at, tagged}
use Rattle.config_tree.specs.Joining.{Entries}
use Rattle.event_text.specs.declared.applied.Applied.{Applied}
use Rattle.config_tree.specs.declared.tree.SettingValue.{SettingValue}
use Rattle.filter_settings.specs.Settings.{Made, wanted, with_made, all_set}
use Rattle.filter_settings.specs.Readers.{text_of, path_of}
use Rattle.filter_settings.specs.Options.{option_set}
use Rattle.filter_settings.specs.Pieces.{split_text}
use Rattle.filters_shape.specs.declared.split_filter.SplitFilter.{SplitFilter}

-- one setting
abbrev pub split_set : List ℕ → SettingValue → SplitFilter → Made SplitFilter
split_set k x f = if bytes_eq k (codes "field") then with_made (λ way. record { field = way; terminator = f.terminator; target = f.target; options = f.options }) (wanted k (path_of x))
    else (if bytes_eq k (codes "terminator") then with_made (λ text. record { field = f.field; terminator = text; target = f.target; options = f.options }) (wanted k (text_of x))
    else (if bytes_eq k (codes "target") then with_made (λ way. record { field = f.field; terminator = f.terminator; target = Some way; options = f.options }) (wanted k (path_of x))
    else with_made (λ o. record { field = f.field; terminator = f.terminator; target = f.target; options = o }) (option_set k x f.options)))

abbrev pub message : Way
message = to false (codes "message" ∷ [])

-- before any setting: the field is `message`, and a newline ends a piece
abbrev pub split_start : SplitFilter
split_start = record { field = message; terminator = 10 ∷ []; target = None; options = no_options }

-- what the settings are read as
abbrev pub split_of : Entries → Made SplitFilter
split_of es = all_set split_set es split_start

abbrev pub is_some_text : List ℕ → Bool
is_some_text s = nat_lt 0 (length s)

-- the pieces of a text that are not empty
abbrev pub text_pieces : List ℕ → List ℕ → List Value
text_pieces terminator s = map v.Text (filter is_some_text (split_text terminator s))

abbrev pieces_in : List ℕ → Value-F Value → Option (List Value)
pieces_in terminator Value-F.Null = None
pieces_in terminator (Value-F.Bool b) = None
pieces_in terminator (Value-F.Num n) = None
pieces_in terminator (Value-F.Text s) = Some (text_pieces terminator s)
pieces_in terminator (Value-F.Time t) = None
pieces_in terminator (Value-F.List xs) = Some xs
pieces_in terminator (Value-F.Object ms) = None

-- the items of a list, and the pieces of a text that are not empty; none of a value of another kind
abbrev pub pieces_of : List ℕ → Value → Option (List Value)
pieces_of terminator x = pieces_in terminator (out-Value x)

-- the pieces of the event's field; none where it is missing
abbrev pub event_pieces : SplitFilter → Ev → Option (List Value)
event_pieces f e = option_and_then (pieces_of f.terminator) (event_at f.field e)

-- where a piece is put: in the place of the field, if nowhere else
abbrev pub target_of : SplitFilter → Way
target_of f = over (λ way. way) f.field f.target

-- the event in which a piece is put: where it takes the place of the field, nothing is left of the field's value
abbrev pub emptied : SplitFilter → Ev → Ev
emptied f e = over (λ target. e) (set_at f.field v.Null e) f.target

-- what is left of the event with one piece, and with the options
abbrev pub event_of : SplitFilter → Ev → Value → Ev
event_of f rest piece = with_options f.options (set_at (target_of f) piece rest)

-- one new event
abbrev pub split_event : SplitFilter → Ev → Value → Ev
split_event f e piece = event_of f (emptied f e) piece

-- a new event for each piece, where there are two or more; fewer leave the event as it is
abbrev pub split_into : SplitFilter → Ev → List Value → Applied
split_into f e pieces = if nat_lt (length pieces) 2 then record { events = e ∷ []; matched = true } else record { events = map (split_event f e) pieces; matched = true }

-- the event with the tag of a failure: its field holds no pieces
abbrev pub not_split : Ev → Applied
not_split e = record { events = tagged (codes "_split_type_failure") e ∷ []; matched = false }

abbrev pub split : SplitFilter → Ev → Applied
split f e = over (split_into f e) (not_split e) (event_pieces f e)
