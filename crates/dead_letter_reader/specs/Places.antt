-- The place up to which letters were answered, as it is recorded: a segment and a length of it.
use Rattle.std.specs.Prelude.{◌≡◌, ◌≤◌, ◌==◌, ◌&&◌, ◌||◌, ℕ, Bool, true, nat_lt, List, [], ◌∷◌, drop, Option, Some, None, Result, Ok, Err, if◌then◌else◌, ⊤}
use Rattle.std.specs.List.{filter}
use Rattle.dead_letters.specs.declared.segments.Counted.{Counted}
use Rattle.dead_letters.specs.declared.segments.Counted.TheVariants.{Nothing, Count, Damaged}
use Rattle.dead_letters.specs.declared.rows.DeadRow.{DeadRow}
use Rattle.dead_letter_reader.specs.declared.place.LetterPosition.{LetterPosition}

abbrev pub place : ℕ → ℕ → LetterPosition
place segment length = record { segment = segment; length = length }

-- What the file says, which has the slots of the file that names the segments of a queue: no place yet, or the segment, in both fields, and the
-- length; or what was found and what was expected, which are the two fields where these differ.
abbrev pub place_in : Counted → Result (Option LetterPosition) (ℕ × ℕ)
place_in Nothing = Ok None
place_in (Count turn s) = if s.first == s.last then Ok (Some (place s.last s.length)) else Err (s.first, s.last)
place_in (Damaged found expected) = Err (found, expected)

-- the file is not damaged
abbrev pub IsIntact : Counted → Type 0
IsIntact recorded = (p : Option LetterPosition) × (place_in recorded ≡ Ok p)

-- a letter stands behind a place
abbrev pub is_behind : Option LetterPosition → DeadRow → Bool
is_behind None r = true
is_behind (Some p) r = nat_lt p.segment r.segment || ((p.segment == r.segment) && nat_lt p.length r.length)

-- the letters behind a place
abbrev pub rows_behind : Option LetterPosition → List DeadRow → List DeadRow
rows_behind p rows = filter (is_behind p) rows

-- the place of a letter
abbrev pub place_at : DeadRow → LetterPosition
place_at r = place r.segment r.length

-- each letter stands behind those before it
abbrev pub AllBehind : Option LetterPosition → List DeadRow → Type 0
AllBehind p [] = ⊤
AllBehind p (r ∷ rows) = (is_behind p r ≡ true) × AllBehind p rows

abbrev pub Rise : List DeadRow → Type 0
Rise [] = ⊤
Rise (r ∷ rows) = AllBehind (Some (place_at r)) rows × Rise rows

-- What the file says passes some of the first letters, of which there are so many, and no other.
pub record Passes (rows : List DeadRow) (done : ℕ) (recorded : Counted) : Type 0 where
  pub recorded_at : Option LetterPosition
  pub is : place_in recorded ≡ Ok recorded_at
  pub passed : ℕ
  pub within : passed ≤ done
  pub others : rows_behind recorded_at rows ≡ drop passed rows
