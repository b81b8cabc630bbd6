-- What a poll and a line make of the reading of a stream.
use Rattle.std.proofs.Common.{◌≡◌, ◌<◌, ℕ, ℤ, true, false, true≢false, List, ◌∷◌, [], ◌++◌, take, refl, sym, ap, ◌∙◌, subst}
use Rattle.io_traits.specs.Pieces.{Piece, Came, End, Nothing}
use Rattle.io_traits.specs.declared.sources.Source.{Ghosts as SourceWords}
use Rattle.byte_lines.specs.Text.{text_of}
use Rattle.byte_lines.specs.Unread.{Unread, lines_left}
use Rattle.event_tree.specs.Events.{Ev}
use Rattle.in_lines.specs.Decoding.{event_by}
use Rattle.in_lines.specs.Polls.{Poll, Received}
use Rattle.in_lines.proofs.Reading.{came, end_came, nothing_came}
use Rattle.in_file.specs.Held.{IsFirst, passed}
use Rattle.in_file.specs.Streams.{Stream, StaysSet, HasRead, polled, looks, Found, WasPolled, GaveEvent}
use Rattle.in_file.proofs.Giving.{first_is, front_of, reading_on}
use Rattle.in_file.proofs.Polling.{looks_none, looks_still, one_poll}

-- a poll that read
read_more : (s : Stream) → 0 < s.unread.limit → (polls : List Poll) (given : List Received) → HasRead polls given s → (moment : ℤ) (piece : Piece) → looks s ≡ true → HasRead (polls ++ one_poll moment piece) given (polled piece moment s)
read_more s some polls given h moment (Came bytes) is = came polls given s.unread s.moment moment bytes some h (looks_none (lines_left s.unread) s.unread.ended is) (looks_still (lines_left s.unread) s.unread.ended is)
read_more s some polls given h moment End is = end_came polls given s.unread s.moment moment some h (looks_none (lines_left s.unread) s.unread.ended is) (looks_still (lines_left s.unread) s.unread.ended is)
read_more s some polls given h moment Nothing is = nothing_came polls given s.unread s.moment moment some h

module _ {I : Type 0} (source : SourceWords I) (moment : ℤ) where
  pub looked_so : (old new : I) (s after : Stream) (piece : Piece) → 0 < s.unread.limit → looks s ≡ true → Found source piece old new → after ≡ polled piece moment s → WasPolled source moment old new s after
  looked_so old new s after piece some is found after_is = record {
    piece = piece;
    after_is = after_is;
    looked = λ _. found;
    stood = λ not. absurd (true≢false (sym is ∙ not));
    read = λ polls given h. subst (HasRead (polls ++ one_poll moment piece) given) (sym after_is) (read_more s some polls given h moment piece is);
  }

  -- one that didn't
  pub stood_so : (i : I) (s : Stream) → 0 < s.unread.limit → looks s ≡ false → WasPolled source moment i i s s
  stood_so i s some is = record {
    piece = Nothing;
    after_is = refl;
    looked = λ looked. absurd (true≢false (sym looked ∙ is));
    stood = λ _. (refl, refl);
    read = λ polls given h. nothing_came polls given s.unread s.moment moment some h;
  }

stays_polled : (piece : Piece) (moment : ℤ) (s : Stream) → StaysSet s (polled piece moment s)
stays_polled (Came bytes) moment s = refl
stays_polled End moment s = refl
stays_polled Nothing moment s = refl

pub stays_so : {I : Type 0} (source : SourceWords I) (moment : ℤ) (old new : I) (s after : Stream) → WasPolled source moment old new s after → StaysSet s after
stays_so source moment old new s after p = subst (StaysSet s) (sym p.after_is) (stays_polled p.piece moment s)

-- the event of the first line was given
pub gave_so : (s after : Stream) (event : Ev) (says n : ℕ) → 0 < s.unread.limit → IsFirst s.unread says n
    → event ≡ event_by s.codec (record { line = text_of (take says s.unread.bytes); moment = s.moment }) → after ≡ record s { unread = passed n s.unread } → GaveEvent event s after
gave_so s after event says n some first event_is after_is =
    let line = text_of (take says s.unread.bytes) in
    let held = sym (ap (λ (v : Stream). v.unread) after_is) in
    record {
      line = line;
      event_is = event_is;
      first = first_is s.unread says n some first ∙ ap (λ u. line ∷ lines_left u) held;
      bytes = take n s.unread.bytes;
      whole = front_of n s.unread.bytes ∙ ap (λ (u : Unread). take n s.unread.bytes ++ u.bytes) held;
      after_is = after_is ∙ ap (λ (u : Unread). record s { unread = record s.unread { bytes = u.bytes } }) held;
      read = λ polls given h. subst (HasRead polls (given ++ record { line = line; moment = s.moment } ∷ [])) (sym after_is) (reading_on s.unread says n some polls given s.moment first h);
    }
