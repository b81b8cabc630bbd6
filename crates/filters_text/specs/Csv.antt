-- The filter csv, as this project's table of plugins has it.
use Rattle.std.specs.Prelude.{ℕ, ◌+◌, nat_lt, slice_get, List, [], ◌∷◌, ◌++◌, ◌==◌, ◌&&◌, length, map, Bool, true, false, if◌then◌else◌, codes, bytes_eq, decimal, Option, Some, None, option_and_then, Ok, Err}
use Rattle.filters_text.specs.Rows.{one_row}
use Rattle.event_tree.specs.Events.{Ev, Way, event_at}
use Rattle.event_tree.specs.Paths.{over}
use Rattle.event_tree.specs.declared.value.Value.{Value}
use Rattle.event_tree.specs.declared.value.Value.TheVariants as v
use Rattle.event_text.specs.Options.{no_options}
use Rattle.event_text.specs.declared.applied.Applied.{Applied}
use Rattle.config_tree.specs.Joining.{Entries}
use Rattle.config_tree.specs.declared.tree.SettingValue.{SettingValue}
use Rattle.event_times.specs.Decoded.{text_of, named}
use Rattle.filter_settings.specs.Settings.{Made, wanted, with_made, all_set}
use Rattle.filter_settings.specs.Trying.{Tried, then_try, put_at, finished}
use Rattle.filter_settings.specs.Convert.{converted}
use Rattle.filter_settings.specs.Readers.{text_of as setting_text, flag_of, path_of, paths_of, field_conversions_of}
use Rattle.filter_settings.specs.Options.{option_set}
use Rattle.filter_settings.specs.declared.conversion.Conversion.{Conversion}
use Rattle.filter_settings.specs.declared.field_changes.Change.{Change}
use Rattle.filter_settings.specs.declared.field_changes.Change.TheVariants as c
use Rattle.filter_settings.specs.Paths.{path_under, same_path}
use Rattle.filters_text.specs.declared.csv_filter.Csv.{Csv}
use Rattle.filters_text.specs.declared.csv_filter.Column.{Column}

-- one character of ASCII
abbrev pub ascii_in : List ℕ → Option ℕ
ascii_in [] = None
ascii_in (b ∷ []) = if nat_lt b 128 then Some b else None
ascii_in (a ∷ b ∷ bs) = None

abbrev pub ascii_of : SettingValue → Option ℕ
ascii_of x = option_and_then ascii_in (setting_text x)

-- one of the settings of columns
abbrev pub columns_set : List ℕ → SettingValue → Csv → Made Csv
columns_set k x f =
    if bytes_eq k (codes "columns") then with_made (λ ways. record f { columns = ways }) (wanted k (paths_of x))
    else (if bytes_eq k (codes "autogenerate_column_names") then with_made (λ b. record f { autogenerate_column_names = b }) (wanted k (flag_of x))
    else (if bytes_eq k (codes "skip_empty_columns") then with_made (λ b. record f { skip_empty_columns = b }) (wanted k (flag_of x))
    else (if bytes_eq k (codes "convert") then with_made (λ ks. record f { convert = ks }) (wanted k (field_conversions_of x))
    else with_made (λ o. record f { options = o }) (option_set k x f.options))))

-- one setting
abbrev pub csv_set : List ℕ → SettingValue → Csv → Made Csv
csv_set k x f =
    if bytes_eq k (codes "source") then with_made (λ way. record f { source = way }) (wanted k (path_of x))
    else (if bytes_eq k (codes "target") then with_made (λ way. record f { target = Some way }) (wanted k (path_of x))
    else (if bytes_eq k (codes "separator") then with_made (λ b. record f { separator = b }) (wanted k (ascii_of x))
    else (if bytes_eq k (codes "quote_char") then with_made (λ b. record f { quote_char = b }) (wanted k (ascii_of x))
    else columns_set k x f)))

-- before any setting: a comma, a double quote, and no column with a name
abbrev pub csv_start : Csv
csv_start = record {
  source = named (codes "message");
  target = None;
  separator = 44;
  quote_char = 34;
  columns = [];
  autogenerate_column_names = true;
  skip_empty_columns = false;
  convert = [];
  places = [];
  failure_tag = codes "_csvparsefailure";
  options = no_options;
}

-- a path at the root, or under the target
abbrev pub placed : Option Way → Way → Way
placed target way = over (λ t. path_under t way) way target

-- the kind that is wanted of a column: that which stands first for its name
abbrev pub kind_of : Way → List (Way × Conversion) → Option Conversion
kind_of way [] = None
kind_of way (k ∷ ks) = if same_path way k.0 then Some k.1 else kind_of way ks

-- where the field of a column of this name is put, and what it becomes
abbrev pub column_of : Csv → Way → Column
column_of f way = record { path = placed f.target way; kind = kind_of way f.convert }

abbrev pub with_places : Csv → Csv
with_places f = record f { places = map (column_of f) f.columns }

-- what the settings are read as
abbrev pub csv_of : Entries → Made Csv
csv_of es = with_made with_places (all_set csv_set es csv_start)

-- what a text becomes by a change; where that fails, the text stays
abbrev pub changed : List ℕ → Change → Value
changed s c.Keep = v.Text s
changed s (c.Set x) = x
changed s c.Fail = v.Text s

-- the text of a field, and what it becomes where another kind is wanted
abbrev pub value_of : Option Conversion → List ℕ → Value
value_of kind s = over (λ k. changed s (converted k (v.Text s))) (v.Text s) kind

abbrev pub is_empty : List ℕ → Bool
is_empty s = length s == 0

-- the field of a column; an empty one may be left out
abbrev pub put_field : Csv → Column → List ℕ → Ev → Tried
put_field f column s e = if f.skip_empty_columns && is_empty s then Ok e else put_at column.path (value_of column.kind s) e

-- the name of a column that has no other: its number, from 1 on
abbrev pub number_name : ℕ → Way
number_name n = named (codes "column" ++ decimal n)

-- the field of a column that has no name
abbrev pub put_unnamed : Csv → ℕ → List ℕ → Ev → Tried
put_unnamed f n s e = if f.autogenerate_column_names then put_field f (column_of f (number_name n)) s e else Ok e

-- the field of the column at this place of the row
abbrev pub put_column : Csv → ℕ → List ℕ → Ev → Tried
put_column f i s e = over (λ column. put_field f column s e) (put_unnamed f (i + 1) s e) (slice_get f.places i)

-- the fields of a row from this place on
abbrev pub put_fields : Csv → ℕ → List (List ℕ) → Ev → Tried
put_fields f i [] e = Ok e
put_fields f i (s ∷ ss) e = then_try (put_fields f (i + 1) ss) (put_column f i s e)

-- the row that a value is
abbrev pub row_in : Csv → Value → Option (List (List ℕ))
row_in f x = option_and_then (one_row f.separator f.quote_char) (text_of x)

-- the fields of a row, or a failure where there is none
abbrev pub put_row : Csv → Option (List (List ℕ)) → Ev → Tried
put_row f None e = Err e
put_row f (Some row) e = put_fields f 0 row e

abbrev pub with_row : Csv → Ev → Option (List (List ℕ)) → Applied
with_row f e row = finished f.options f.failure_tag (put_row f row e)

-- the event whose source is missing stays as it is, and is not matched
abbrev pub separated : Csv → Ev → Applied
separated f e = over (λ x. with_row f e (row_in f x)) (record { events = e ∷ []; matched = false }) (event_at f.source e)
