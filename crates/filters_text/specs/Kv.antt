-- The filter kv, as this project's table of plugins has it.
use Rattle.std.specs.Prelude.{ℕ, List, [], ◌∷◌, ◌++◌, ◌&&◌, ◌||◌, not, Bool, true, false, if◌then◌else◌, codes, bytes_eq, ◌==◌, length, map, Option, Some, None, option_map, option_and_then}
use Rattle.std.specs.Prelude.{encode_utf8_all}
use Rattle.std.specs.List.{list_any}
use Rattle.std.specs.Str.{chars}
use Rattle.plain_data.specs.Members.{get_member, insert_member, set_member}
use Rattle.event_tree.specs.Events.{Ev, event_at}
use Rattle.event_tree.specs.Paths.{over}
use Rattle.event_tree.specs.declared.value.Value.{Value}
use Rattle.event_tree.specs.declared.value.Value.TheVariants as v
use Rattle.event_text.specs.Options.{no_options, each_done, set_at, with_options}
use Rattle.event_text.specs.declared.applied.Applied.{Applied}
use Rattle.config_tree.specs.Joining.{Entries}
use Rattle.config_tree.specs.declared.tree.SettingValue.{SettingValue}
use Rattle.event_times.specs.Decoded.{text_of, named}
use Rattle.filter_settings.specs.Settings.{Made, wanted, with_made, all_set}
use Rattle.filter_settings.specs.Readers.{text_of as setting_text, flag_of, path_of, texts_of}
use Rattle.filter_settings.specs.Options.{option_set}
use Rattle.filters_text.specs.Pairs.{pairs_in, trimmed}
use Rattle.filters_text.specs.Targets.{under}
use Rattle.filters_text.specs.declared.kv_text.Splits.{Splits}
use Rattle.filters_text.specs.declared.kv_filter.Kv.{Kv}

-- a setting that is a set of characters
abbrev pub characters_of : SettingValue → Option (List ℕ)
characters_of x = option_map chars (setting_text x)

abbrev pub with_fields_split : Kv → List ℕ → Kv
with_fields_split f cs = record f { splits = record { fields = cs; values = f.splits.values; keys = f.splits.keys } }

abbrev pub with_values_split : Kv → List ℕ → Kv
with_values_split f cs = record f { splits = record { fields = f.splits.fields; values = cs; keys = f.splits.keys } }

-- one of the settings of how a text is read
abbrev pub text_set : List ℕ → SettingValue → Kv → Made Kv
text_set k x f =
    if bytes_eq k (codes "field_split") then with_made (with_fields_split f) (wanted k (characters_of x))
    else (if bytes_eq k (codes "value_split") then with_made (with_values_split f) (wanted k (characters_of x))
    else (if bytes_eq k (codes "trim_key") then with_made (λ cs. record f { trim_key = cs }) (wanted k (characters_of x))
    else (if bytes_eq k (codes "trim_value") then with_made (λ cs. record f { trim_value = cs }) (wanted k (characters_of x))
    else with_made (λ o. record f { options = o }) (option_set k x f.options))))

-- one setting
abbrev pub kv_set : List ℕ → SettingValue → Kv → Made Kv
kv_set k x f =
    if bytes_eq k (codes "source") then with_made (λ way. record f { source = way }) (wanted k (path_of x))
    else (if bytes_eq k (codes "target") then with_made (λ way. record f { target = Some way }) (wanted k (path_of x))
    else (if bytes_eq k (codes "prefix") then with_made (λ s. record f { prefix = s }) (wanted k (setting_text x))
    else (if bytes_eq k (codes "include_keys") then with_made (λ ks. record f { include_keys = ks }) (wanted k (texts_of x))
    else (if bytes_eq k (codes "exclude_keys") then with_made (λ ks. record f { exclude_keys = ks }) (wanted k (texts_of x))
    else (if bytes_eq k (codes "allow_duplicate_values") then with_made (λ b. record f { allow_duplicate_values = b }) (wanted k (flag_of x))
    else text_set k x f)))))

-- pairs are split at blanks, and keys from values at `=`
abbrev pub default_splits : Splits
default_splits = record { fields = codes " "; values = codes "="; keys = [] }

-- before any setting
abbrev pub kv_start : Kv
kv_start = record {
  source = named (codes "message");
  target = None;
  splits = default_splits;
  prefix = [];
  include_keys = [];
  exclude_keys = [];
  trim_key = [];
  trim_value = [];
  allow_duplicate_values = true;
  options = no_options;
}

-- a key ends at the characters of both sets
abbrev pub with_ends : Kv → Kv
with_ends f = record f { splits = record { fields = f.splits.fields; values = f.splits.values; keys = f.splits.fields ++ f.splits.values } }

-- what the settings are read as
abbrev pub kv_of : Entries → Made Kv
kv_of es = with_made with_ends (all_set kv_set es kv_start)

abbrev pub is_one_of : List (List ℕ) → List ℕ → Bool
is_one_of ks k = list_any (λ s. bytes_eq s k) ks

-- a key that is wanted: one of those that are included, where there are some, and none of those that are excluded
abbrev pub is_wanted : Kv → List ℕ → Bool
is_wanted f k = (length f.include_keys == 0 || is_one_of f.include_keys k) && not (is_one_of f.exclude_keys k)

-- the bytes of a key, and of a value, without the characters that are trimmed
abbrev pub trimmed_bytes : List ℕ → List ℕ → List ℕ
trimmed_bytes set cs = encode_utf8_all (trimmed set cs)

-- the field that a pair sets, with its text; none where the key isn't wanted
abbrev pub field_of : Kv → List ℕ × List ℕ → List (List ℕ × List ℕ)
field_of f p =
    if is_wanted f (trimmed_bytes f.trim_key p.0) then (f.prefix ++ trimmed_bytes f.trim_key p.0, trimmed_bytes f.trim_value p.1) ∷ []
    else []

abbrev pub fields_of : Kv → List (List ℕ × List ℕ) → List (List ℕ × List ℕ)
fields_of f [] = []
fields_of f (p ∷ ps) = field_of f p ++ fields_of f ps

-- the texts of each field, in the order of the names
abbrev pub Groups : Type 0
Groups = List (List ℕ × List (List ℕ))

-- one more text behind those that a field has; an equal one isn't added again, unless duplicates are allowed
abbrev pub joined : Bool → List ℕ → List (List ℕ) → List (List ℕ)
joined duplicates s texts = if not duplicates && is_one_of texts s then texts else texts ++ s ∷ []

abbrev pub added : Bool → Groups → List ℕ × List ℕ → Groups
added duplicates found p =
    over (λ texts. set_member p.0 (joined duplicates p.1 texts) found) (insert_member p.0 (p.1 ∷ []) found) (get_member p.0 found)

abbrev pub all_added : Bool → Groups → List (List ℕ × List ℕ) → Groups
all_added duplicates found [] = found
all_added duplicates found (p ∷ ps) = all_added duplicates (added duplicates found p) ps

abbrev pub groups_of : Kv → List ℕ → Groups
groups_of f s = all_added f.allow_duplicate_values [] (fields_of f (pairs_in f.splits (chars s)))

-- a text, and several as a list
abbrev pub value_of : List (List ℕ) → Value
value_of [] = v.List []
value_of (s ∷ []) = v.Text s
value_of (s ∷ t ∷ ss) = v.List (map v.Text (s ∷ t ∷ ss))

-- a field at the root, or under the target; one that can't be put there isn't
abbrev pub with_group : Kv → List ℕ × List (List ℕ) → Ev → Ev
with_group f g e = set_at (under f.target (g.0 ∷ [])) (value_of g.1) e

abbrev pub with_groups : Kv → Ev → Groups → Applied
with_groups f e groups = record { events = with_options f.options (each_done (with_group f) groups e) ∷ []; matched = true }

abbrev pub unmatched : Ev → Applied
unmatched e = record { events = e ∷ []; matched = false }

-- a source that is no text leaves the event as it is, not matched
abbrev pub paired : Kv → Ev → Applied
paired f e = over (λ s. with_groups f e (groups_of f s)) (unmatched e) (option_and_then text_of (event_at f.source e))
