-- A reader of a text in memory, and what its next read finds.
use Rattle.std.specs.Prelude.{ℕ, List, ◌≡◌, ⊤, true, Option, Some, None}
use Rattle.csv.specs.Machine.{Read}
use Rattle.csv.specs.Reading.{Ready, source_of, reader_config, reader_state, reader_trim, is_flexible}
use Rattle.csv.specs.Records.{AllText}
use Rattle.csv.specs.declared.reader.Reader.{Reader}
use Rattle.csv.specs.declared.reader.Trim.TheVariants as trim
use Rattle.filters_text.specs.declared.csv_row.NextRow.{NextRow}
use Rattle.filters_text.specs.declared.csv_row.NextRow.TheVariants as next

-- the reader gives the next row of these bytes, of whatever length, with all its blanks
pub record Stands {R : Type 0} (rem : R → Option (List ℕ)) (bytes : List ℕ) (r : Reader R) : Type 0 where
  pub ready : Ready r
  pub trim : reader_trim r ≡ trim.None
  pub flexible : is_flexible r ≡ true
  pub left : source_of rem r ≡ Some bytes

-- the reader stands behind a row that was read
pub record Behind {R : Type 0} (rem : R → Option (List ℕ)) (read : Read) (row : List (List ℕ)) (old new : Reader R) : Type 0 where
  pub fields : row ≡ read.0
  pub text : AllText row
  pub config : reader_config new ≡ reader_config old
  pub state : reader_state new ≡ read.1
  pub stands : Stands rem read.2 new

-- what a read finds is the next row of the bytes
abbrev pub Says : {R : Type 0} → (R → Option (List ℕ)) → NextRow → Option Read → List (List ℕ) → Reader R → Reader R → Type 0
Says rem next.Row None row old new = ⊥
Says rem next.Row (Some read) row old new = Behind rem read row old new
Says rem next.NoText None row old new = ⊥
Says rem next.NoText (Some read) row old new = ¬ (AllText read.0)
Says rem next.End None row old new = ⊤
Says rem next.End (Some read) row old new = ⊥
