-- An input that reads bytes, between two polls: which of the lines that came it gave, and what it holds.
use Rattle.std.specs.Prelude.{◌≡◌, ◌⊎◌, ◌<◌, ℕ, suc, ℤ, Bool, true, List, [], ◌++◌, length}
use Rattle.std.specs.List.{flat_map, AllByRecursion}
use Rattle.io_traits.specs.Pieces.{Piece, Came, End, Nothing}
use Rattle.byte_lines.specs.Split.{RawLine, IsRawLine, SplitsInto, line_bytes}
use Rattle.byte_lines.specs.Unread.{Unread, lines_left}
use Rattle.in_lines.specs.Polls.{Poll, joined, is_ended, Received, received, received_at}

-- ---- the bytes behind the first lines

-- so many whole lines stand in front, with what ends each
pub record StandBefore (limit : ℕ) (bytes : List ℕ) (count : ℕ) (behind : List ℕ) : Type 0 where
  pub lines : List RawLine
  pub each : AllByRecursion (IsRawLine limit) lines
  pub counted : length lines ≡ count
  pub whole : bytes ≡ flat_map line_bytes lines ++ behind

-- they are all lines, the last of which the end makes of what is left behind the whole ones
pub record AreAll (limit : ℕ) (bytes : List ℕ) (ended : Bool) (count : ℕ) (behind : List ℕ) : Type 0 where
  pub lines : List RawLine
  pub rest : List ℕ
  pub splits : SplitsInto limit bytes lines rest
  pub counted : suc (length lines) ≡ count
  pub some : 0 < length rest
  pub at_end : ended ≡ true
  pub none : behind ≡ []

-- behind the first lines, so many, of bytes that may have ended, stand these
abbrev pub HasBehind : ℕ → List ℕ → Bool → ℕ → List ℕ → Type 0
HasBehind limit bytes ended count behind = StandBefore limit bytes count behind ⊎ AreAll limit bytes ended count behind

-- ---- readings

-- An input that met these polls and gave these lines holds these bytes; the lines among them were made whole by a poll at this moment.
pub record IsReading (polls : List Poll) (given : List Received) (unread : Unread) (moment : ℤ) : Type 0 where
  -- the lines that came are those that it gave, and those that it holds
  pub lines : received unread.limit polls ≡ given ++ received_at moment (lines_left unread)
  -- the bytes are those of the lines that it gave, and those that it holds
  pub bytes : HasBehind unread.limit (joined polls) unread.ended (length given) unread.bytes
  pub ended : unread.ended ≡ is_ended polls

-- what is held once a piece came
abbrev pub with_piece : Piece → Unread → Unread
with_piece (Came bytes) unread = record unread { bytes = unread.bytes ++ bytes }
with_piece End unread = record unread { ended = true }
with_piece Nothing unread = unread

-- ---- laws

-- of the same bytes, only these stand behind so many lines
abbrev pub OneIsBehind : Type 0
OneIsBehind = (limit : ℕ) (bytes : List ℕ) (ended : Bool) (count : ℕ) (one other : List ℕ) → 0 < limit → HasBehind limit bytes ended count one → HasBehind limit bytes ended count other → one ≡ other
