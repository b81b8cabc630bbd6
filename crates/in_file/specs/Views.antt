-- An input that watches a file, as contracts see it.
use Rattle.std.specs.Prelude.{ℕ, ◌+◌, ℤ, Bool, List, length}
use Rattle.byte_lines.specs.Unread.{Unread}
use Rattle.in_lines.specs.declared.codec.Codec.{Codec}

pub record Watched : Type 0 where
  -- the names of the file and of its position file
  pub path : List ℕ
  pub slot : List ℕ
  -- whether the end of the file is that of the input, and how lines are read
  pub ends : Bool
  pub codec : Codec
  -- where this reading began, and the place behind the last line that was given
  pub began : ℕ
  pub behind : ℕ
  -- the bytes from there on that were read, whether the file ended behind them, and the moment of the poll that made the lines among them whole
  pub unread : Unread
  pub moment : ℤ
  -- the position that is recorded, and where none is that at which this reading began; and the turn of the slot that is written next
  pub position : ℕ
  pub turn : ℕ

-- the place behind all bytes that were read
abbrev pub taken : Watched → ℕ
taken w = w.behind + length w.unread.bytes
