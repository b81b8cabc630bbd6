-- The lines among what came over the connections and was not given yet.
use Rattle.std.specs.Prelude.{◌≡◌, ◌<◌, ◌⊎◌, ℕ, ◌+◌, suc, true, false, List, [], ◌∷◌, length, take, if◌then◌else◌}
use Rattle.io_traits.specs.Pieces.{bytes_in}
use Rattle.byte_lines.specs.Text.{text_of}
use Rattle.in_lines.specs.Polls.{Received}
use Rattle.in_lines.specs.Sources.{Look, made_from, lefts_after}
use Rattle.in_tcp.specs.Lines.{HasNoLine, IsWholeFirst, Part, line_limit}
use Rattle.in_tcp.specs.Pieces.{IsFront, front_bytes, is_end}
use Rattle.in_tcp.specs.Rests.{bytes_of}
use Rattle.in_tcp.specs.declared.receive_buffer.ReceiveBuffer.{ReceiveBuffer}
use Rattle.in_tcp.specs.declared.receive_buffer.NextLine.{NextLine}
use Rattle.in_tcp.specs.declared.pieces.PieceRecord.{PieceRecord}

-- the lines that are held, and what is left of each connection behind them: those of the pieces, from what was left on
abbrev pub lines_in : List Part → List Look → List (ℕ × Received)
lines_in parts looks = made_from line_limit (bytes_of parts) looks

abbrev pub lefts_in : List Part → List Look → ℕ → List ℕ
lefts_in parts looks = lefts_after line_limit (bytes_of parts) looks

-- the same lines are held, and the same is left
pub record SameLines (old new : ReceiveBuffer) : Type 0 where
  pub lines : lines_in new.rests new.pieces ≡ lines_in old.rests old.pieces
  pub lefts : (n : ℕ) → lefts_in new.rests new.pieces n ≡ lefts_in old.rests old.pieces n

-- all of some bytes are the line that the end makes of them
pub record IsLast (bytes : List ℕ) (says taken : ℕ) : Type 0 where
  pub none : HasNoLine bytes
  pub some : 0 < length bytes
  pub says_all : says ≡ length bytes
  pub taken_all : taken ≡ length bytes

-- where the next line stands
abbrev pub next_bytes : ReceiveBuffer → NextLine → List ℕ
next_bytes h next = if next.in_rest then bytes_of h.rests next.mark.conn else front_bytes h.pieces

-- and what it says, as text
abbrev pub next_text : ReceiveBuffer → NextLine → List ℕ
next_text h next = text_of (take next.content_len (next_bytes h next))

-- The next line is the first of what was left of its connection, or, where nothing was, of its piece.
pub record IsNext (h : ReceiveBuffer) (next : NextLine) : Type 0 where
  pub front : IsFront h.pieces next.mark
  pub none_left : next.in_rest ≡ false → bytes_of h.rests next.mark.conn ≡ []
  pub first : IsWholeFirst (next_bytes h next) next.content_len next.taken ⊎ ((is_end next.mark.gave ≡ true) × (next.in_rest ≡ true) × IsLast (next_bytes h next) next.content_len next.taken)

-- no line is whole among what was left of the connection of the first piece, nor in the piece, where nothing was
pub record HasNoNext (h : ReceiveBuffer) (m : PieceRecord) : Type 0 where
  pub rest : HasNoLine (bytes_of h.rests m.conn)
  pub piece : bytes_of h.rests m.conn ≡ [] → HasNoLine (front_bytes h.pieces)
  pub end : is_end m.gave ≡ true → bytes_of h.rests m.conn ≡ []

-- the next line was given up
pub record GivesLine (old new : ReceiveBuffer) (next : NextLine) : Type 0 where
  pub lines : lines_in old.rests old.pieces ≡ (next.mark.conn, record { line = next_text old next; moment = next.mark.moment }) ∷ lines_in new.rests new.pieces
  pub lefts : (n : ℕ) → lefts_in new.rests new.pieces n ≡ lefts_in old.rests old.pieces n

-- how much is to be done with some looks
abbrev pub size_of : List Look → ℕ
size_of [] = 0
size_of (look ∷ looks) = suc (length (bytes_in look.1.piece)) + size_of looks
