-- The next line is given as an event.
use Rattle.std.proofs.Common.{◌≡◌, ◌≤◌, ◌⊎◌, true, Some, None, Ok, Err, Result, Option, inl, inr, [], ◌∷◌, length, take, refl, sym, ap, ◌∙◌, subst, arith, length-take}
use Rattle.std.proofs.lemmas.Bool.{false≢true}
use Rattle.std.specs.declared.alloc.AllocError.{AllocError}
use Rattle.event_tree.specs.Events.{Ev}
use Rattle.in_lines.specs.declared.codec.Codec.{Codec}
use Rattle.in_lines.specs.Decoding.{event_by}
use Rattle.in_lines.proofs.Short.{content_short}
use Rattle.in_tcp.specs.Given.{GaveHeld}
use Rattle.in_tcp.specs.Held.{GivesLine, IsLast, IsNext, SameLines, lines_in, next_bytes, next_text}
use Rattle.in_tcp.specs.Lines.{IsWholeFirst, line_limit}
use Rattle.in_tcp.specs.Pieces.{is_end}
use Rattle.in_tcp.specs.declared.receive_buffer.ReceiveBuffer.{ReceiveBuffer}
use Rattle.in_tcp.specs.declared.receive_buffer.NextLine.{NextLine}

pub short_next : (h : ReceiveBuffer) (next : NextLine) → IsNext h next → length (take next.content_len (next_bytes h next)) ≤ 1048576
short_next h next is = by is.first
  where
    by : IsWholeFirst (next_bytes h next) next.content_len next.taken ⊎ ((is_end next.mark.gave ≡ true) × (next.in_rest ≡ true) × IsLast (next_bytes h next) next.content_len next.taken) → length (take next.content_len (next_bytes h next)) ≤ 1048576
    by (inl w) = omega (arith, content_short line_limit w.line w.is, ap length w.content)
    by (inr l) = omega (arith, l.2.none.short, length-take next.content_len (next_bytes h next))

-- memory ran out
pub gave_short : (codec : Codec) (old new : ReceiveBuffer) (result : Result (Option Ev) AllocError) (y : AllocError) → result ≡ Err y → SameLines old new → GaveHeld codec old new result
gave_short codec old new result y is same = subst (GaveHeld codec old new) (sym is) (record { given = []; lines = sym same.lines; lefts = same.lefts; events = tt; none = tt; err = λ _. refl })

-- none is held
pub gave_none : (codec : Codec) (old new : ReceiveBuffer) → SameLines old new → new.pieces ≡ [] → GaveHeld codec old new (Ok None)
gave_none codec old new same none = record {
  given = [];
  lines = sym same.lines;
  lefts = same.lefts;
  events = refl;
  none = sym same.lines ∙ ap (lines_in new.rests) none;
  err = λ no. absurd (false≢true no);
}

pub gave_one : (codec : Codec) (old mid new : ReceiveBuffer) (next : NextLine) (event : Ev) → SameLines old mid → GivesLine mid new next → event ≡ event_by codec (record { line = next_text mid next; moment = next.mark.moment }) → GaveHeld codec old new (Ok (Some event))
gave_one codec old mid new next event same gives made = record {
  given = (next.mark.conn, record { line = next_text mid next; moment = next.mark.moment }) ∷ [];
  lines = sym same.lines ∙ gives.lines;
  lefts = λ n. gives.lefts n ∙ same.lefts n;
  events = ap (λ e. e ∷ []) made;
  none = tt;
  err = λ no. absurd (false≢true no);
}
