-- What one more poll adds to the lines that came.
use Rattle.std.proofs.Common.{◌≡◌, ◌<◌, ℕ, ℤ, Bool, true, false, List, [], ◌∷◌, ◌++◌, map, length, drop, refl, sym, ap, ◌∙◌, append_assoc, append-nil}
use Rattle.std.proofs.lemmas.List.{map-append}
use Rattle.std.proofs.Math.Seq.{drop-append_seam}
use Rattle.io_traits.specs.Pieces.{Piece, Came, End, Nothing}
use Rattle.byte_lines.specs.Split.{split_of}
use Rattle.byte_lines.specs.Lines.{whole_lines, last_line}
use Rattle.byte_lines.specs.Unread.{lines_left}
use Rattle.byte_lines.proofs.Splitting.{whole_lines-append, rest-append, split_of-rest}
use Rattle.byte_lines.proofs.Giving.{unread, lines_left-nil}
use Rattle.in_lines.specs.Polls.{Poll, joined, joined_with, is_ended, ended_with, lines_through, Received, received_at, received_after, received, rest_through, lines_by}

-- where no poll met the end, the bytes of others come behind
joined_behind : (piece : Piece) (mine more both : List ℕ) (ended : Bool) → ended_with piece ended ≡ false → (ended ≡ false → both ≡ mine ++ more) → joined_with piece both ≡ joined_with piece mine ++ more
joined_behind (Came bytes) mine more both ended still later = ap (λ t. bytes ++ t) (later still) ∙ sym (append_assoc bytes mine more)
joined_behind End mine more both ended still later = absurd cc
joined_behind Nothing mine more both ended still later = later still

pub joined-append : (polls more : List Poll) → is_ended polls ≡ false → joined (polls ++ more) ≡ joined polls ++ joined more
joined-append [] more still = refl
joined-append (poll ∷ polls) more still = joined_behind poll.piece (joined polls) (joined more) (joined (polls ++ more)) (is_ended polls) still (joined-append polls more)

ended_behind : (piece : Piece) (mine more both : Bool) → ended_with piece mine ≡ false → (mine ≡ false → both ≡ more) → ended_with piece both ≡ more
ended_behind (Came bytes) mine more both still later = later still
ended_behind End mine more both still later = absurd cc
ended_behind Nothing mine more both still later = later still

pub is_ended-append : (polls more : List Poll) → is_ended polls ≡ false → is_ended (polls ++ more) ≡ is_ended more
is_ended-append [] more still = refl
is_ended-append (poll ∷ polls) more still = ended_behind poll.piece (is_ended polls) (is_ended more) (is_ended (polls ++ more)) still (is_ended-append polls more)

pub received_after-append : (limit : ℕ) (before polls more : List Poll) → received_after limit before (polls ++ more) ≡ received_after limit before polls ++ received_after limit (before ++ polls) more
received_after-append limit before [] more = ap (λ t. received_after limit t more) (sym (append-nil before))
received_after-append limit before (poll ∷ polls) more =
    let after = before ++ poll ∷ [] in
    let first = received_at poll.moment (drop (length (lines_through limit before)) (lines_through limit after)) in
    ap (λ t. first ++ t) (received_after-append limit after polls more ∙ ap (λ t. received_after limit after polls ++ received_after limit t more) (append_assoc before (poll ∷ []) polls))
    ∙ sym (append_assoc first (received_after limit after polls) (received_after limit (before ++ poll ∷ polls) more))

-- the lines of all bytes after one more poll
pub lines_through-more : (limit : ℕ) (polls : List Poll) (moment : ℤ) (piece : Piece) → 0 < limit → is_ended polls ≡ false
    → lines_through limit (polls ++ record { moment = moment; piece = piece } ∷ []) ≡ lines_through limit polls ++ lines_by limit (rest_through limit polls) piece
lines_through-more limit polls moment piece some still =
    ap (λ t. lines_left (unread limit t (is_ended (polls ++ one)))) (joined-append polls one still)
    ∙ ap (λ e. lines_left (unread limit (joined polls ++ joined one) e)) (is_ended-append polls one still)
    ∙ added piece
    ∙ ap (λ e. lines_left (unread limit (joined polls) e) ++ lines_by limit (rest_through limit polls) piece) (sym still)
  where
    one : List Poll
    one = record { moment = moment; piece = piece } ∷ []

    added : (p : Piece) → lines_left (unread limit (joined polls ++ joined (record { moment = moment; piece = p } ∷ [])) (is_ended (record { moment = moment; piece = p } ∷ []))) ≡ lines_left (unread limit (joined polls) false) ++ lines_by limit (rest_through limit polls) p
    added (Came bytes) =
        append-nil (whole_lines limit (joined polls ++ (bytes ++ []))) ∙ ap (λ t. whole_lines limit (joined polls ++ t)) (append-nil bytes) ∙ whole_lines-append limit (joined polls) bytes some
        ∙ ap (λ t. t ++ whole_lines limit (rest_through limit polls ++ bytes)) (sym (append-nil (whole_lines limit (joined polls))))
    added End =
        ap (λ t. whole_lines limit t ++ last_line (split_of limit t).rest) (append-nil (joined polls)) ∙ ap (λ t. t ++ last_line (rest_through limit polls)) (sym (append-nil (whole_lines limit (joined polls))))
    added Nothing =
        ap (λ t. whole_lines limit t ++ []) (append-nil (joined polls)) ∙ sym (append-nil (whole_lines limit (joined polls) ++ []))

-- so one more poll adds the lines that its piece makes whole, at its moment
pub received-more : (limit : ℕ) (polls : List Poll) (moment : ℤ) (piece : Piece) → 0 < limit → is_ended polls ≡ false
    → received limit (polls ++ record { moment = moment; piece = piece } ∷ []) ≡ received limit polls ++ received_at moment (lines_by limit (rest_through limit polls) piece)
unfolding received
received-more limit polls moment piece some still =
    let one : List Poll = record { moment = moment; piece = piece } ∷ [] in
    let before = lines_through limit polls in
    let added = lines_by limit (rest_through limit polls) piece in
    received_after-append limit [] polls one
    ∙ ap (λ t. received_after limit [] polls ++ t) (append-nil (received_at moment (drop (length before) (lines_through limit (polls ++ one)))))
    ∙ ap (λ t. received_after limit [] polls ++ received_at moment (drop (length before) t)) (lines_through-more limit polls moment piece some still)
    ∙ ap (λ t. received_after limit [] polls ++ received_at moment t) (drop-append_seam before added)

-- what is left after one more poll
pub rest_through-more : (limit : ℕ) (polls : List Poll) (moment : ℤ) (bytes : List ℕ) → 0 < limit → is_ended polls ≡ false
    → rest_through limit (polls ++ record { moment = moment; piece = Came bytes } ∷ []) ≡ (split_of limit (rest_through limit polls ++ bytes)).rest
rest_through-more limit polls moment bytes some still =
    ap (λ t. (split_of limit t).rest) (joined-append polls (record { moment = moment; piece = Came bytes } ∷ []) still ∙ ap (λ t. joined polls ++ t) (append-nil bytes)) ∙ rest-append limit (joined polls) bytes some

pub rest_through-nothing : (limit : ℕ) (polls : List Poll) (moment : ℤ) → is_ended polls ≡ false → rest_through limit (polls ++ record { moment = moment; piece = Nothing } ∷ []) ≡ rest_through limit polls
rest_through-nothing limit polls moment still =
    ap (λ t. (split_of limit t).rest) (joined-append polls (record { moment = moment; piece = Nothing } ∷ []) still ∙ append-nil (joined polls))

pub received-nil : (limit : ℕ) → received limit [] ≡ []
unfolding received
received-nil limit = refl

pub rest_through-nil : (limit : ℕ) → 0 < limit → rest_through limit [] ≡ []
rest_through-nil limit some = ap (λ s. s.rest) (split_of-rest limit [] tt some)

-- nothing comes behind an end
joined_ended : (piece : Piece) (mine both : List ℕ) (ended : Bool) → ended_with piece ended ≡ true → (ended ≡ true → both ≡ mine) → joined_with piece both ≡ joined_with piece mine
joined_ended (Came bytes) mine both ended is later = ap (λ t. bytes ++ t) (later is)
joined_ended End mine both ended is later = refl
joined_ended Nothing mine both ended is later = later is

pub joined-ended : (polls more : List Poll) → is_ended polls ≡ true → joined (polls ++ more) ≡ joined polls
joined-ended [] more is = absurd cc
joined-ended (poll ∷ polls) more is = joined_ended poll.piece (joined polls) (joined (polls ++ more)) (is_ended polls) is (joined-ended polls more)

ended_still : (piece : Piece) (mine both : Bool) → ended_with piece mine ≡ true → (mine ≡ true → both ≡ true) → ended_with piece both ≡ true
ended_still (Came bytes) mine both is later = later is
ended_still End mine both is later = refl
ended_still Nothing mine both is later = later is

pub is_ended-ended : (polls more : List Poll) → is_ended polls ≡ true → is_ended (polls ++ more) ≡ true
is_ended-ended [] more is = absurd cc
is_ended-ended (poll ∷ polls) more is = ended_still poll.piece (is_ended polls) (is_ended (polls ++ more)) is (is_ended-ended polls more)

-- the lines after more polls are those before and others behind them
abbrev pub Longer : ℕ → List Poll → List Poll → Type 0
Longer limit before more = (later : List (List ℕ)) × (lines_through limit (before ++ more) ≡ lines_through limit before ++ later)

pub one_longer : (limit : ℕ) (before : List Poll) (poll : Poll) → 0 < limit → Longer limit before (poll ∷ [])
one_longer limit before poll some = elim (is_ended before) as (λ e. is_ended before ≡ e → Longer limit before (poll ∷ [])) [
  | false ↦ λ still. (lines_by limit (rest_through limit before) poll.piece, lines_through-more limit before poll.moment poll.piece some still)
  | true ↦ λ is. (
    [],
    ap (λ t. lines_left (unread limit t (is_ended (before ++ poll ∷ [])))) (joined-ended before (poll ∷ []) is)
        ∙ ap (λ e. lines_left (unread limit (joined before) e)) (is_ended-ended before (poll ∷ []) is ∙ sym is) ∙ sym (append-nil (lines_through limit before)),
  )
] refl

longer : (limit : ℕ) (before more : List Poll) → 0 < limit → Longer limit before more
longer limit before [] some = ([], ap (lines_through limit) (append-nil before) ∙ sym (append-nil (lines_through limit before)))
longer limit before (poll ∷ polls) some =
    let one = one_longer limit before poll some in
    let all = longer limit (before ++ poll ∷ []) polls some in (
      one.0 ++ all.0,
      ap (lines_through limit) (sym (append_assoc before (poll ∷ []) polls)) ∙ all.1 ∙ ap (λ t. t ++ all.0) one.1 ∙ append_assoc (lines_through limit before) one.0 all.0,
    )

abbrev lines_in : List Received → List (List ℕ)
lines_in received = map (λ r. r.line) received

lines_at : (moment : ℤ) (lines : List (List ℕ)) → lines_in (received_at moment lines) ≡ lines
lines_at moment [] = refl
lines_at moment (line ∷ lines) = ap (λ t. line ∷ t) (lines_at moment lines)

lines_after : (limit : ℕ) (before polls : List Poll) → 0 < limit → lines_in (received_after limit before polls) ≡ drop (length (lines_through limit before)) (lines_through limit (before ++ polls))
lines_after limit before [] some =
    sym (ap (λ t. drop (length (lines_through limit before)) (lines_through limit t)) (append-nil before) ∙ ap (drop (length (lines_through limit before))) (sym (append-nil (lines_through limit before)))
    ∙ drop-append_seam (lines_through limit before) [])
lines_after limit before (poll ∷ polls) some =
    let after = before ++ poll ∷ [] in
    let mine = lines_through limit before in
    let one = one_longer limit before poll some in
    let all = longer limit after polls some in
    map-append (λ r. r.line) (received_at poll.moment (drop (length mine) (lines_through limit after))) (received_after limit after polls)
    ∙ ap (λ t. t ++ lines_in (received_after limit after polls)) (lines_at poll.moment (drop (length mine) (lines_through limit after)) ∙ ap (drop (length mine)) one.1 ∙ drop-append_seam mine one.0)
    ∙ ap (λ t. one.0 ++ t) (lines_after limit after polls some ∙ ap (drop (length (lines_through limit after))) all.1 ∙ drop-append_seam (lines_through limit after) all.0)
    ∙ sym (ap (drop (length mine)) (ap (lines_through limit) (sym (append_assoc before (poll ∷ []) polls)) ∙ all.1 ∙ ap (λ t. t ++ all.0) one.1 ∙ append_assoc mine one.0 all.0) ∙ drop-append_seam mine (one.0 ++ all.0))

-- the lines that came are those of all bytes
pub received-lines : (limit : ℕ) (polls : List Poll) → 0 < limit → map (λ r. r.line) (received limit polls) ≡ lines_through limit polls
unfolding received
received-lines limit polls some = lines_after limit [] polls some ∙ ap (λ n. drop n (lines_through limit polls)) (ap length (lines_left-nil limit false some))
