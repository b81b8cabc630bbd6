-- A piece that comes in two changes no line.
use Rattle.std.proofs.Common.{◌≡◌, ℕ, ℤ, List, [], ◌∷◌, ◌++◌, refl, sym, ap, ◌∙◌, append_assoc}
use Rattle.io_traits.specs.Pieces.{Came}
use Rattle.byte_lines.specs.Unread.{lines_left}
use Rattle.byte_lines.proofs.Giving.{unread}
use Rattle.in_lines.specs.Polls.{Poll, joined, joined_with, is_ended, ended_with, lines_through}

abbrev came : ℤ → List ℕ → Poll
came moment bytes = record { moment = moment; piece = Came bytes }

joined-cut : (before after : List Poll) (moment earlier later : ℤ) (bytes more : List ℕ)
    → joined (before ++ came earlier bytes ∷ came later more ∷ after) ≡ joined (before ++ came moment (bytes ++ more) ∷ after)
joined-cut [] after moment earlier later bytes more = sym (append_assoc bytes more (joined after))
joined-cut (poll ∷ before) after moment earlier later bytes more = ap (joined_with poll.piece) (joined-cut before after moment earlier later bytes more)

is_ended-cut : (before after : List Poll) (moment earlier later : ℤ) (bytes more : List ℕ)
    → is_ended (before ++ came earlier bytes ∷ came later more ∷ after) ≡ is_ended (before ++ came moment (bytes ++ more) ∷ after)
is_ended-cut [] after moment earlier later bytes more = refl
is_ended-cut (poll ∷ before) after moment earlier later bytes more = ap (ended_with poll.piece) (is_ended-cut before after moment earlier later bytes more)

pub lines_through-cut : (limit : ℕ) (before after : List Poll) (moment earlier later : ℤ) (bytes more : List ℕ)
    → lines_through limit (before ++ record { moment = earlier; piece = Came bytes } ∷ record { moment = later; piece = Came more } ∷ after)
    ≡ lines_through limit (before ++ record { moment = moment; piece = Came (bytes ++ more) } ∷ after)
lines_through-cut limit before after moment earlier later bytes more =
    ap (λ t. lines_left (unread limit t (is_ended (before ++ came earlier bytes ∷ came later more ∷ after)))) (joined-cut before after moment earlier later bytes more)
    ∙ ap (λ e. lines_left (unread limit (joined (before ++ came moment (bytes ++ more) ∷ after)) e)) (is_ended-cut before after moment earlier later bytes more)
