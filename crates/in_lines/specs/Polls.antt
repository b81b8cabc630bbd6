-- The lines that come from a source, each with the moment of the poll that made it whole.
use Rattle.std.specs.Prelude.{ℕ, ℤ, Bool, true, false, List, [], ◌∷◌, ◌++◌, length, map, drop}
use Rattle.io_traits.specs.Pieces.{Piece, Came, End, Nothing}
use Rattle.byte_lines.specs.Split.{split_of}
use Rattle.byte_lines.specs.Lines.{whole_lines, last_line}
use Rattle.byte_lines.specs.Unread.{lines_left}

-- a look at a source: the moment of the clock at which it was made, and what the read gave
pub record Poll : Type 0 where
  pub moment : ℤ
  pub piece : Piece

-- the bytes of a piece and then those that come later: nothing is read behind an end
abbrev pub joined_with : Piece → List ℕ → List ℕ
joined_with (Came bytes) later = bytes ++ later
joined_with End later = []
joined_with Nothing later = later

-- the bytes of all pieces, joined
abbrev pub joined : List Poll → List ℕ
joined [] = []
joined (poll ∷ polls) = joined_with poll.piece (joined polls)

abbrev pub ended_with : Piece → Bool → Bool
ended_with (Came bytes) later = later
ended_with End later = true
ended_with Nothing later = later

-- whether the input came to its end
abbrev pub is_ended : List Poll → Bool
is_ended [] = false
is_ended (poll ∷ polls) = ended_with poll.piece (is_ended polls)

-- the lines of all those bytes: the whole ones and, where the input ended, what is left
abbrev pub lines_through : ℕ → List Poll → List (List ℕ)
lines_through limit polls = lines_left (record { limit = limit; bytes = joined polls; ended = is_ended polls })

-- a line as it came: its text, and the moment of the poll that made it whole
pub record Received : Type 0 where
  pub line : List ℕ
  pub moment : ℤ

abbrev pub received_at : ℤ → List (List ℕ) → List Received
received_at moment lines = map (λ line. record { line = line; moment = moment }) lines

-- the lines that a poll made whole, where others were before it: those that stand among the lines of all bytes after it and stood not
-- among them before it
abbrev pub made_whole : ℕ → List Poll → Poll → List Received
made_whole limit before poll = received_at poll.moment (drop (length (lines_through limit before)) (lines_through limit (before ++ poll ∷ [])))

-- the lines that some polls made whole, where others were before them
abbrev pub received_after : ℕ → List Poll → List Poll → List Received
received_after limit before [] = []
received_after limit before (poll ∷ polls) = made_whole limit before poll ++ received_after limit (before ++ poll ∷ []) polls

unfoldable pub received : ℕ → List Poll → List Received
received limit polls = received_after limit [] polls

-- what is left of all those bytes behind the whole lines
abbrev pub rest_through : ℕ → List Poll → List ℕ
rest_through limit polls = (split_of limit (joined polls)).rest

-- the lines that a piece makes whole, behind such a rest
abbrev pub lines_by : ℕ → List ℕ → Piece → List (List ℕ)
lines_by limit rest (Came bytes) = whole_lines limit (rest ++ bytes)
lines_by limit rest End = last_line rest
lines_by limit rest Nothing = []
