-- What an input of standard input takes of its source and gives of it, poll by poll and line by line (this project's rules for inputs).
use Rattle.std.specs.Prelude.{◌≡◌, ◌≤◌, ◌<◌, ℕ, ℤ, Bool, true, false, Option, Some, None, Ok, List, [], ◌∷◌, ◌++◌, length, pos}
use Rattle.io_traits.specs.Counts.{HasCause}
use Rattle.io_traits.specs.Pieces.{Piece, Came, End, Nothing, bytes_in, gave, piece_list}
use Rattle.io_traits.specs.Telling.{Grows, IsAtEnd, Shrinks}
use Rattle.io_traits.specs.declared.sources.Source.{Ghosts as SourceWords}
use Rattle.io_traits.specs.declared.sources.Step.{Step}
use Rattle.byte_lines.specs.Unread.{Unread, lines_left, unread}
use Rattle.event_tree.specs.Events.{Ev}
use Rattle.in_lines.specs.Decoding.{event_by}
use Rattle.in_lines.specs.Polls.{Poll, Received}
use Rattle.in_lines.specs.Readings.{IsReading, with_piece}
use Rattle.in_lines.specs.declared.codec.Codec.{Codec}
use Rattle.in_lines.specs.declared.poll_outcome.Got.{Got}
use Rattle.in_file.specs.Held.{got_by, looks_by}
use Rattle.in_file.specs.Looks.{read_limit}
use Rattle.in_file.specs.Openings.{line_limit}

-- An input of a stream, as contracts see it: how lines are read; the bytes that were read and whose lines are not given yet, and whether the stream ended
-- behind them; and the moment of the poll that made the lines among them whole.
pub record Stream : Type 0 where
  pub codec : Codec
  pub unread : Unread
  pub moment : ℤ

-- one of which nothing was read
abbrev pub begun : Codec → Stream
begun codec = record { codec = codec; unread = unread line_limit [] false; moment = pos 0 }

-- what a poll and a line leave as it was
abbrev pub StaysSet : Stream → Stream → Type 0
StaysSet before after = after ≡ record before { unread = after.unread; moment = after.moment }

-- An input that met these polls since it was made, and gave these lines.
abbrev pub HasRead : List Poll → List Received → Stream → Type 0
HasRead polls given s = IsReading polls given s.unread s.moment

-- ---- polls

-- what an input holds once a poll at this moment found a piece
abbrev pub polled : Piece → ℤ → Stream → Stream
polled (Came bytes) moment s = record s { unread = with_piece (Came bytes) s.unread; moment = moment }
polled End moment s = record s { unread = with_piece End s.unread; moment = moment }
polled Nothing moment s = s

abbrev pub looks : Stream → Bool
looks s = looks_by (lines_left s.unread) s.unread.ended

abbrev pub got_of : Stream → Got
got_of s = got_by (lines_left s.unread) s.unread.ended

module _ {I : Type 0} (source : SourceWords I) where
  -- one read of the source, which found this piece
  pub record Found (piece : Piece) (old new : I) : Type 0 where
    pub given : Grows (source.given old) (source.given new) (piece_list piece)
    pub left : Shrinks (source.left old) (source.left new) (bytes_in piece)
    pub some : (bytes : List ℕ) → piece ≡ Came bytes → (0 < length bytes) × (length bytes ≤ read_limit)
    pub end : piece ≡ End → IsAtEnd (source.left new)
    -- nothing was found exactly where the source says so
    pub waits : HasCause (source.waits old) (source.waits new) (piece ≡ Nothing)

  -- a read that failed
  pub record TakesNothing (old new : I) : Type 0 where
    pub given : Grows (source.given old) (source.given new) []
    pub left : Shrinks (source.left old) (source.left new) []

  -- one read with this answer, whose bytes were put behind others
  pub record WasRead (step : Step) (before after : List ℕ) (old new : I) : Type 0 where
    pub room : List ℕ
    pub whole : after ≡ before ++ bytes_in (gave (Ok step) room)
    pub found : Found (gave (Ok step) room) old new

  -- what a poll at a moment found, and what the input holds behind it
  pub record WasPolled (moment : ℤ) (old new : I) (before after : Stream) : Type 0 where
    pub piece : Piece
    pub after_is : after ≡ polled piece moment before
    -- it read, once
    pub looked : looks before ≡ true → Found piece old new
    -- or not
    pub stood : looks before ≡ false → (piece ≡ Nothing) × (new ≡ old)
    -- it is a poll of the reading
    pub read : (polls : List Poll) (given : List Received) → HasRead polls given before → HasRead (polls ++ record { moment = moment; piece = piece } ∷ []) given after

-- ---- lines

-- an event was given: that of the first line held, at the moment of the poll that made the line whole
pub record GaveEvent (event : Ev) (before after : Stream) : Type 0 where
  pub line : List ℕ
  pub event_is : event ≡ event_by before.codec (record { line = line; moment = before.moment })
  pub first : lines_left before.unread ≡ line ∷ lines_left after.unread
  -- the bytes in which it stands, with what ends it
  pub bytes : List ℕ
  pub whole : before.unread.bytes ≡ bytes ++ after.unread.bytes
  pub after_is : after ≡ record before { unread = record before.unread { bytes = after.unread.bytes } }
  -- it is the next line of the reading
  pub read : (polls : List Poll) (given : List Received) → HasRead polls given before → HasRead polls (given ++ record { line = line; moment = before.moment } ∷ []) after

-- an event was given, or no whole line is held
abbrev pub Gave : Option Ev → Stream → Stream → Type 0
Gave (Some event) before after = GaveEvent event before after
Gave None before after = (lines_left before.unread ≡ []) × (after ≡ before)
