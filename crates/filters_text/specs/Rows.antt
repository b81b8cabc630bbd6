-- The row that a text of CSV is (RFC 4180), as the crate csv reads rows: its own ends of rows, its own quotes, and no byte order mark.
use Rattle.std.specs.Prelude.{ℕ, List, [], ◌∷◌, if◌then◌else◌, Option, Some, None, option_and_then}
use Rattle.std.specs.List.{list_all}
use Rattle.std.specs.Str.{is_utf8}
use Rattle.csv.specs.Reading.{records, strip_bom, default_config}
use Rattle.csv.specs.declared.parser.Config.{Config}

-- a row is the list of its fields
abbrev pub Row : Type 0
Row = List (List ℕ)

-- what splits fields, and what stands around a field with anything in it; all else is as the crate has it
abbrev pub form : ℕ → ℕ → Config
form separator quote = record default_config { delimiter = separator; quote = quote }

-- every row of a text
unfoldable pub rows : ℕ → ℕ → List ℕ → List Row
rows separator quote s = records (form separator quote) (strip_bom s)

-- the row, where there is exactly one
abbrev pub only : List Row → Option Row
only [] = None
only (r ∷ []) = Some r
only (r ∷ s ∷ rs) = None

-- a row whose fields are text
abbrev pub text_row : Row → Option Row
text_row r = if list_all is_utf8 r then Some r else None

-- the row that a text is; none where it is no row, or several, or where a separator that is no ASCII cut a character
unfoldable pub one_row : ℕ → ℕ → List ℕ → Option Row
one_row separator quote s = option_and_then text_row (only (rows separator quote s))
