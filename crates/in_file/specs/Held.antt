-- The lines among the bytes that an input holds, and what a poll makes of them.
use Rattle.std.specs.Prelude.{◌≡◌, ◌⊎◌, ◌<◌, ℕ, Bool, true, false, List, [], ◌∷◌, ◌++◌, length, take, drop, if◌then◌else◌}
use Rattle.byte_lines.specs.Split.{HasNoLineFeed, RawLine, IsRawLine, line_bytes, line_content}
use Rattle.byte_lines.specs.Unread.{Unread, lines_left}
use Rattle.in_lines.specs.declared.poll_outcome.Got.{Got}
use Rattle.in_lines.specs.declared.poll_outcome.Got.TheVariants as got

-- a whole line stands in front, so many bytes with what ends it, of which it says the first
pub record IsWholeFirst (u : Unread) (says bytes : ℕ) : Type 0 where
  pub line : RawLine
  pub is : IsRawLine u.limit line
  pub content : line_content line ≡ take says u.bytes
  pub whole : u.bytes ≡ line_bytes line ++ drop bytes u.bytes

-- all bytes are the line that the end makes of them
pub record IsLast (u : Unread) (says bytes : ℕ) : Type 0 where
  pub free : HasNoLineFeed u.bytes
  pub short : length u.bytes < u.limit
  pub some : 0 < length u.bytes
  pub at_end : u.ended ≡ true
  pub says_all : says ≡ length u.bytes
  pub bytes_all : bytes ≡ length u.bytes

-- the first line that is held
abbrev pub IsFirst : Unread → ℕ → ℕ → Type 0
IsFirst u says bytes = IsWholeFirst u says bytes ⊎ IsLast u says bytes

-- whether a line is held
abbrev pub is_some : List (List ℕ) → Bool
is_some [] = false
is_some (line ∷ lines) = true

abbrev pub has_line : Unread → Bool
has_line u = is_some (lines_left u)

-- without so many bytes in front
abbrev pub passed : ℕ → Unread → Unread
passed n u = record u { bytes = drop n u.bytes }

-- whether a poll looks at the file or the source: no whole line is held, and its end was not met
abbrev pub looks_by : List (List ℕ) → Bool → Bool
looks_by [] ended = if ended then false else true
looks_by (line ∷ lines) ended = false

-- the answer of a poll: whole lines are held; or none, and the end was met, or not yet
abbrev pub got_by : List (List ℕ) → Bool → Got
got_by [] ended = if ended then got.End else got.NotYet
got_by (line ∷ lines) ended = got.Lines
