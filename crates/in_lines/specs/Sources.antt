-- The lines that come from several sources beside each other, as from the files of a folder or from connections. Each source has a number. Where there is
-- one source alone these are the lines of its polls.
use Rattle.std.specs.Prelude.{◌≡◌, ℕ, Bool, true, false, List, [], ◌∷◌, ◌++◌, map, nat_eq, if◌then◌else◌}
use Rattle.io_traits.specs.Pieces.{Piece, Came, End, Nothing}
use Rattle.byte_lines.specs.Split.{split_of}
use Rattle.byte_lines.specs.Unread.{lines_left, unread}
use Rattle.in_lines.specs.Polls.{Poll, Received, is_ended, made_whole, received_at, rest_through}

-- a look at one of the sources: the number of the source, and the poll
abbrev pub Look : Type 0
Look = ℕ × Poll

-- what has the number of a source, in its order
abbrev pub of_source : {X : Type 0} → ℕ → List (ℕ × X) → List X
of_source n [] = []
of_source n (x ∷ xs) = if nat_eq x.0 n then x.1 ∷ of_source n xs else of_source n xs

-- all of these have the number of the source
abbrev pub from_source : {X : Type 0} → ℕ → List X → List (ℕ × X)
from_source n xs = map (λ x. (n, x)) xs

-- The lines that some looks made whole, where others were before them. Each look makes those whole that its poll makes whole among the polls of its own source, and
-- so the lines stand in the order in which they became whole.
abbrev pub interleaved_lines_from : ℕ → List Look → List Look → List (ℕ × Received)
interleaved_lines_from limit before [] = []
interleaved_lines_from limit before (look ∷ looks) =
    from_source look.0 (made_whole limit (of_source look.0 before) look.1)
    ++ interleaved_lines_from limit (before ++ look ∷ []) looks

unfoldable pub received_beside : ℕ → List Look → List (ℕ × Received)
received_beside limit looks = interleaved_lines_from limit [] looks

-- a line and the number of its source, whatever the moment
abbrev pub line_from : ℕ × Received → ℕ × List ℕ
line_from r = (r.0, r.1.line)

-- whether a source came to its end
abbrev pub is_source_ended : ℕ → List Look → Bool
is_source_ended n looks = is_ended (of_source n looks)

-- the bytes of a source that are left behind its whole lines: none behind its end
abbrev pub left_of : ℕ → ℕ → List Look → List ℕ
left_of limit n looks = if is_source_ended n looks then [] else rest_through limit (of_source n looks)

-- ---- from what is left of each source on

-- the lines that a piece makes whole behind such a rest, and what it leaves
abbrev pub made_by : ℕ → List ℕ → Piece → List (List ℕ)
made_by limit rest (Came bytes) = lines_left (unread limit (rest ++ bytes) false)
made_by limit rest End = lines_left (unread limit rest true)
made_by limit rest Nothing = lines_left (unread limit rest false)

abbrev pub left_by : ℕ → List ℕ → Piece → List ℕ
left_by limit rest (Came bytes) = (split_of limit (rest ++ bytes)).rest
left_by limit rest End = []
left_by limit rest Nothing = (split_of limit rest).rest

-- what a look leaves of each source, by its number
abbrev pub left_after : ℕ → (ℕ → List ℕ) → Look → ℕ → List ℕ
left_after limit lefts look n = if nat_eq look.0 n then left_by limit (lefts n) look.1.piece else lefts n

-- the lines that looks make whole, and what they leave
abbrev pub made_from : ℕ → (ℕ → List ℕ) → List Look → List (ℕ × Received)
made_from limit lefts [] = []
made_from limit lefts (look ∷ looks) =
    from_source look.0 (received_at look.1.moment (made_by limit (lefts look.0) look.1.piece))
    ++ made_from limit (left_after limit lefts look) looks

abbrev pub lefts_after : ℕ → (ℕ → List ℕ) → List Look → ℕ → List ℕ
lefts_after limit lefts [] = lefts
lefts_after limit lefts (look ∷ looks) = lefts_after limit (left_after limit lefts look) looks

-- none of these looks is behind the end of its source, where others were before them
abbrev pub GoOn : List Look → List Look → Type 0
GoOn before [] = Unit {0}
GoOn before (look ∷ looks) = (is_source_ended look.0 before ≡ false) × GoOn (before ++ look ∷ []) looks
