-- The search for a held line that moves nothing.
use Rattle.std.specs.Prelude.{ℕ, Bool, false, not, nat_eq, List, [], ◌∷◌, ◌++◌, take, drop, if◌then◌else◌}
use Rattle.io_traits.specs.Pieces.{bytes_in}
use Rattle.in_lines.specs.Sources.{Look, made_by}
use Rattle.in_tcp.specs.Held.{lefts_in}
use Rattle.in_tcp.specs.Lines.{Part, line_limit}
use Rattle.in_tcp.specs.Pieces.{count_of}
use Rattle.in_tcp.specs.Took.{is_none}
use Rattle.in_tcp.specs.declared.pieces.PieceRecord.{PieceRecord}
use Rattle.in_tcp.specs.declared.receive_buffer.ReceiveBuffer.{ReceiveBuffer}

-- the bytes that some looks found of a connection
abbrev pub joined_of : ℕ → List Look → List ℕ
joined_of n [] = []
joined_of n (look ∷ looks) = (if nat_eq look.0 n then bytes_in look.1.piece else []) ++ joined_of n looks

-- and how many bytes a piece has of it
abbrev pub count_from : ℕ → PieceRecord → ℕ
count_from n m = if nat_eq m.conn n then count_of m.gave else 0

-- whether the first look makes a line whole, behind these
abbrev pub first_completes : List Part → List Look → List Look → Bool
first_completes parts before [] = false
first_completes parts before (look ∷ looks) = not (is_none (made_by line_limit (lefts_in parts before look.0) look.1.piece))

-- whether the piece of a place does
abbrev pub completes : ReceiveBuffer → ℕ → Bool
completes h place = first_completes h.rests (take place h.pieces) (drop place h.pieces)
