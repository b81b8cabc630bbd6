-- Lines and what is left of connections, while bytes go from pieces over to what is left.
use Rattle.std.proofs.Common.{◌≡◌, ◌<◌, ℕ, Bool, true, false, List, [], ◌∷◌, ◌++◌, length, take, drop, nat_eq, if◌then◌else◌, refl, sym, ap, ap₂, ◌∙◌, arith, append-nil, append_assoc}
use Rattle.std.proofs.lemmas.Bool.{eqb-true, eq-eqb, cond-true, cond-false}
use Rattle.std.proofs.lemmas.List.{take-append-drop}
use Rattle.io_traits.specs.Pieces.{Piece, Came, End, Nothing}
use Rattle.byte_lines.specs.Split.{RawLine, IsRawLine, line_bytes, split_of}
use Rattle.byte_lines.specs.Text.{text_of}
use Rattle.byte_lines.specs.Lines.{line_text}
use Rattle.byte_lines.specs.Unread.{lines_left}
use Rattle.byte_lines.proofs.Splitting.{split_of-line, split_of-rest}
use Rattle.byte_lines.proofs.Giving.{unread, lines_left-line, lines_left-last, lines_left-nil, lines_left-waiting}
use Rattle.in_lines.specs.Polls.{Poll, Received, received_at}
use Rattle.in_lines.specs.Sources.{Look, from_source, left_after, left_by, lefts_after, made_by, made_from}
use Rattle.in_tcp.specs.Lines.{HasNoLine, line_limit}

abbrev pub Lefts : Type 0
Lefts = ℕ → List ℕ

same_fun : {X : Type 0} {f g : ℕ → X} → ((n : ℕ) → f n ≡ g n) → f ≡ g
same_fun h = λ i n. h n i

-- one connection has these bytes left, each other one what it had
abbrev pub Now : ℕ → List ℕ → Lefts → Lefts → Type 0
Now conn bytes old new = (n : ℕ) → new n ≡ (if nat_eq conn n then bytes else old n)

now_mine : (conn : ℕ) (bytes : List ℕ) (old new : Lefts) → Now conn bytes old new → new conn ≡ bytes
now_mine conn bytes old new now = now conn ∙ cond-true _ _ _ (eq-eqb conn conn refl)

-- what a look of one connection leaves, where the looks at it leave the same and the others had the same
left_alike : (old new : Lefts) (conn : ℕ) (bytes : List ℕ) (one other : Look) → Now conn bytes old new → one.0 ≡ conn → other.0 ≡ conn → left_by line_limit (old conn) one.1.piece ≡ left_by line_limit bytes other.1.piece
    → left_after line_limit old one ≡ left_after line_limit new other
left_alike old new conn bytes one other now mine theirs same = same_fun (λ n. by n (nat_eq conn n) refl)
  where
    by : (n : ℕ) (b : Bool) → nat_eq conn n ≡ b → (if nat_eq one.0 n then left_by line_limit (old n) one.1.piece else old n) ≡ (if nat_eq other.0 n then left_by line_limit (new n) other.1.piece else new n)
    by n true is =
        let at = eqb-true conn n is in
        cond-true _ _ _ (ap (λ m. nat_eq m n) mine ∙ is) ∙ ap (λ m. left_by line_limit (old m) one.1.piece) (sym at) ∙ same
        ∙ ap (λ b. left_by line_limit b other.1.piece) (sym (now n ∙ cond-true _ _ _ is)) ∙ sym (cond-true _ _ _ (ap (λ m. nat_eq m n) theirs ∙ is))
    by n false differ =
        cond-false _ _ _ (ap (λ m. nat_eq m n) mine ∙ differ) ∙ sym (now n ∙ cond-false _ _ _ differ) ∙ sym (cond-false _ _ _ (ap (λ m. nat_eq m n) theirs ∙ differ))

-- ---- the first look, before and after a change of it and of what was left

abbrev look : ℕ → Poll → Look
look conn poll = (conn, poll)

abbrev pub IsSame : Lefts → List Look → Lefts → List Look → Type 0
IsSame old looks new others = (made_from line_limit new others ≡ made_from line_limit old looks) × ((n : ℕ) → lefts_after line_limit new others n ≡ lefts_after line_limit old looks n)

abbrev pub Gives : Lefts → List Look → Lefts → List Look → ℕ × Received → Type 0
Gives old looks new others r = (made_from line_limit old looks ≡ r ∷ made_from line_limit new others) × ((n : ℕ) → lefts_after line_limit new others n ≡ lefts_after line_limit old looks n)

module _ (old new : Lefts) (conn : ℕ) (bytes : List ℕ) (one other : Poll) (looks : List Look) (now : Now conn bytes old new) (at : other.moment ≡ one.moment) (leaves : left_by line_limit (old conn) one.piece ≡ left_by line_limit bytes other.piece) where
  leaves_same : left_after line_limit old (conn, one) ≡ left_after line_limit new (conn, other)
  leaves_same = left_alike old new conn bytes (conn, one) (conn, other) now refl refl leaves

  -- the same lines
  pub same_first : made_by line_limit (old conn) one.piece ≡ made_by line_limit bytes other.piece → IsSame old ((conn, one) ∷ looks) new ((conn, other) ∷ looks)
  same_first lines = (
    ap₂ (λ s f. s ++ made_from line_limit f looks)
        (ap₂ (λ m ls. from_source conn (received_at m ls)) at (ap (λ b. made_by line_limit b other.piece) (now_mine conn bytes old new now) ∙ sym lines))
        (sym leaves_same),
    λ n. ap (λ f. lefts_after line_limit f looks n) (sym leaves_same),
  )

  -- one line is given
  pub given_first : (text : List ℕ) → made_by line_limit (old conn) one.piece ≡ text ∷ made_by line_limit bytes other.piece
      → Gives old ((conn, one) ∷ looks) new ((conn, other) ∷ looks) (conn, record { line = text; moment = one.moment })
  given_first text lines = (
    ap₂ (λ s f. s ++ made_from line_limit f looks)
        (ap (λ ls. from_source conn (received_at one.moment ls)) (lines ∙ ap (λ b. text ∷ made_by line_limit b other.piece) (sym (now_mine conn bytes old new now)))
        ∙ ap (λ m. (conn, record { line = text; moment = one.moment }) ∷ from_source conn (received_at m (made_by line_limit (new conn) other.piece))) (sym at))
        leaves_same,
    λ n. ap (λ f. lefts_after line_limit f looks n) (sym leaves_same),
  )

-- a first look without lines that leaves what it had
pub no_look : (old : Lefts) (conn : ℕ) (poll : Poll) (looks : List Look) → made_by line_limit (old conn) poll.piece ≡ [] → left_by line_limit (old conn) poll.piece ≡ old conn → IsSame old ((conn, poll) ∷ looks) old looks
no_look old conn poll looks none stays =
    let same : left_after line_limit old (conn, poll) ≡ old = same_fun (λ n. by n (nat_eq conn n) refl) in (
      ap (λ f. made_from line_limit f looks) (sym same) ∙ ap (λ ls. from_source conn (received_at poll.moment ls) ++ made_from line_limit (left_after line_limit old (conn, poll)) looks) (sym none),
      λ n. ap (λ f. lefts_after line_limit f looks n) (sym same),
    )
  where
    by : (n : ℕ) (b : Bool) → nat_eq conn n ≡ b → (if b then left_by line_limit (old n) poll.piece else old n) ≡ old n
    by n true is = ap (λ m. left_by line_limit (old m) poll.piece) (sym (eqb-true conn n is)) ∙ stays ∙ ap old (eqb-true conn n is)
    by n false differ = refl

-- ---- what pieces make

some_limit : 0 < line_limit
some_limit = omega arith

-- bytes that go over to what was left
pub over_lines : (rest bytes : List ℕ) (k : ℕ) → made_by line_limit rest (Came bytes) ≡ made_by line_limit (rest ++ take k bytes) (Came (drop k bytes))
over_lines rest bytes k = ap (λ b. lines_left (unread line_limit b false)) (sym (append_assoc rest (take k bytes) (drop k bytes) ∙ ap (λ t. rest ++ t) (take-append-drop k bytes)))

pub over_left : (rest bytes : List ℕ) (k : ℕ) → left_by line_limit rest (Came bytes) ≡ left_by line_limit (rest ++ take k bytes) (Came (drop k bytes))
over_left rest bytes k = ap (λ b. (split_of line_limit b).rest) (sym (append_assoc rest (take k bytes) (drop k bytes) ∙ ap (λ t. rest ++ t) (take-append-drop k bytes)))

-- a whole line in front of what was left
pub whole_lines_rest : (line : RawLine) (rest behind : List ℕ) (piece : Piece) → IsRawLine line_limit line → rest ≡ line_bytes line ++ behind → made_by line_limit rest piece ≡ line_text line ∷ made_by line_limit behind piece
whole_lines_rest line rest behind (Came bytes) is whole =
    ap (λ r. lines_left (unread line_limit (r ++ bytes) false)) whole ∙ ap (λ b. lines_left (unread line_limit b false)) (append_assoc (line_bytes line) behind bytes) ∙ lines_left-line line_limit line (behind ++ bytes) false some_limit is
whole_lines_rest line rest behind End is whole = ap (λ r. lines_left (unread line_limit r true)) whole ∙ lines_left-line line_limit line behind true some_limit is
whole_lines_rest line rest behind Nothing is whole = ap (λ r. lines_left (unread line_limit r false)) whole ∙ lines_left-line line_limit line behind false some_limit is

pub whole_left_rest : (line : RawLine) (rest behind : List ℕ) (piece : Piece) → IsRawLine line_limit line → rest ≡ line_bytes line ++ behind → left_by line_limit rest piece ≡ left_by line_limit behind piece
whole_left_rest line rest behind (Came bytes) is whole =
    ap (λ r. (split_of line_limit (r ++ bytes)).rest) whole ∙ ap (λ b. (split_of line_limit b).rest) (append_assoc (line_bytes line) behind bytes) ∙ ap (λ s. s.rest) (split_of-line line_limit line (behind ++ bytes) some_limit is)
whole_left_rest line rest behind End is whole = refl
whole_left_rest line rest behind Nothing is whole = ap (λ r. (split_of line_limit r).rest) whole ∙ ap (λ s. s.rest) (split_of-line line_limit line behind some_limit is)

-- no line among what was left and a piece without bytes
pub none_lines : (rest : List ℕ) → HasNoLine rest → made_by line_limit rest (Came []) ≡ []
none_lines rest none = ap (λ b. lines_left (unread line_limit b false)) (append-nil rest) ∙ lines_left-waiting line_limit rest none.short none.free

pub none_left : (rest : List ℕ) → HasNoLine rest → left_by line_limit rest (Came []) ≡ rest
none_left rest none = ap (λ b. (split_of line_limit b).rest) (append-nil rest) ∙ ap (λ s. s.rest) (split_of-rest line_limit rest none.free none.short)

-- the line that the end makes
pub last_lines : (rest : List ℕ) → HasNoLine rest → 0 < length rest → made_by line_limit rest End ≡ text_of rest ∷ made_by line_limit [] End
last_lines rest none some = lines_left-last line_limit rest some none.short none.free ∙ ap (λ l. text_of rest ∷ l) (sym (lines_left-nil line_limit true some_limit))

pub end_lines : made_by line_limit [] End ≡ []
end_lines = lines_left-nil line_limit true some_limit
