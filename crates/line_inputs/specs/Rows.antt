-- A watched file of an input, with the rows that its lines became and the places behind these lines (this project's rules for inputs).
use Rattle.std.specs.Prelude.{◌<◌, ◌++◌, ℕ, length, nat_le, nat_eq, not, Bool, true, false, ◌||◌, Option, Some, None, List, [], ◌∷◌, if◌then◌else◌}
use Rattle.std.specs.List.{filter}
use Rattle.crc_frame.specs.Slots.{next_turn}
use Rattle.in_file.specs.Looks.{got_of}
use Rattle.in_file.specs.Views.{Watched}
use Rattle.in_lines.specs.declared.poll_outcome.Got.{Got}
use Rattle.in_lines.specs.declared.poll_outcome.Got.TheVariants.{Lines, NotYet, End}
use Rattle.line_inputs.specs.declared.watched_file.RowPlace.{RowPlace}

-- A watched file, as contracts see it: its input; the place behind the line of the last event that was handed on; the rows that are noted, in the order in
-- which they were, each with the place behind its line; for how many rows there is room; and whether a poll met the end of the input.
pub record Noted : Type 0 where
  pub watched : Watched
  pub ended : Bool
  pub given : ℕ
  pub rows : List RowPlace
  pub capacity : ℕ

-- one that was just opened
abbrev pub opened : Watched → Noted
opened w = record { watched = w; ended = false; given = w.behind; rows = []; capacity = 0 }

-- there is room for one more row
abbrev pub HasRoom : Noted → Type 0
HasRoom n = length n.rows < n.capacity

-- its event was handed on
abbrev pub handed_on : Noted → Noted
handed_on n = record n { given = n.watched.behind }

-- a row is noted, with the place behind the line of the last event that was handed on
abbrev pub with_row : ℕ → Noted → Noted
with_row number n = record n { rows = n.rows ++ record { number = number; behind = n.given } ∷ [] }

-- the end was met, by the answer of a poll
abbrev pub is_end : Got → Bool
is_end Lines = false
is_end NotYet = false
is_end End = true

-- what a poll leaves, by what it left of the file's input
abbrev pub polled : Watched → Noted → Noted
polled w n = record n { watched = w; ended = n.ended || is_end (got_of w) }

-- the place of the last of some rows up to a front, and before the first of them this one
abbrev pub last_place : ℕ → Option ℕ → List RowPlace → Option ℕ
last_place front found [] = found
last_place front found (r ∷ rows) = last_place front (if nat_le r.number front then Some r.behind else found) rows

-- the place up to which the rows up to a front reach
abbrev pub reached : ℕ → Noted → Option ℕ
reached front n = last_place front None n.rows

-- the rows above a front
abbrev pub rows_above : ℕ → List RowPlace → List RowPlace
rows_above front rows = filter (λ (r : RowPlace). not (nat_le r.number front)) rows

-- a position is recorded, where it is another one than before
abbrev pub recorded : Option ℕ → Watched → Watched
recorded None w = w
recorded (Some place) w = if nat_eq place w.position then w else record w { position = place; turn = next_turn w.turn }

-- the place that the rows up to a front reach is recorded, and these are forgotten
abbrev pub assured : ℕ → Noted → Noted
assured front n = record n { watched = recorded (reached front n) n.watched; rows = rows_above front n.rows }
