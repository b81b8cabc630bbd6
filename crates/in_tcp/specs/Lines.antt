-- The lines among the bytes of a connection.
use Rattle.std.specs.Prelude.{◌≡◌, ◌≤◌, ◌<◌, ℕ, List, ◌++◌, length, take, drop}
use Rattle.byte_lines.specs.Split.{HasNoLineFeed, RawLine, IsRawLine, line_bytes, line_content}

-- how many bytes a line may have
abbrev pub line_limit : ℕ
line_limit = 1048576

-- bytes of a connection
pub record Part : Type 0 where
  pub conn : ℕ
  pub bytes : List ℕ

-- a whole line stands in front of the bytes, so many with what ends it, of which it says the first
pub record IsWholeFirst (bytes : List ℕ) (says taken : ℕ) : Type 0 where
  pub line : RawLine
  pub is : IsRawLine line_limit line
  pub content : line_content line ≡ take says bytes
  pub whole : bytes ≡ line_bytes line ++ drop taken bytes
  pub within : taken ≤ length bytes
  pub says_within : says ≤ taken

-- no line is whole among the bytes
pub record HasNoLine (bytes : List ℕ) : Type 0 where
  pub free : HasNoLineFeed bytes
  pub short : length bytes < line_limit
