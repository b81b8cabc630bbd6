-- What a poll makes of a reading.
use Rattle.std.proofs.Common.{◌≡◌, ◌<◌, ◌+◌, ℕ, ℤ, Bool, true, false, true≢false, List, [], ◌∷◌, ◌++◌, length, take, drop, refl, sym, ap, ◌∙◌, arith, subst, append-nil, length-append, if◌then◌else◌}
use Rattle.std.proofs.Math.Path.{ap₂}
use Rattle.std.proofs.lemmas.Bool.{false≢true}
use Rattle.io_traits.specs.Pieces.{Piece, Came, End, Nothing}
use Rattle.io_traits.specs.Reads.{bytes_of}
use Rattle.io_traits.specs.declared.files.Files.{Ghosts as FilesWords}
use Rattle.byte_lines.specs.Unread.{Unread, lines_left}
use Rattle.in_lines.specs.Polls.{Poll, joined, is_ended, Received}
use Rattle.in_lines.specs.Readings.{with_piece}
use Rattle.in_lines.proofs.Receiving.{joined-append}
use Rattle.in_lines.proofs.Reading.{came, end_came, nothing_came, joined-nothing}
use Rattle.in_file.specs.Held.{looks_by}
use Rattle.in_file.specs.Views.{Watched, taken}
use Rattle.in_file.specs.Looks.{Keeps, HasRead, IsRead, Found, WasPolled, looks, piece_of, polled, taken_in, room_at}

-- where it looks, it holds no line and isn't at its end
pub looks_none : (lines : List (List ℕ)) (ended : Bool) → looks_by lines ended ≡ true → lines ≡ []
looks_none [] ended is = refl
looks_none (line ∷ lines) ended is = absurd (false≢true is)

pub looks_still : (lines : List (List ℕ)) (ended : Bool) → looks_by lines ended ≡ true → ended ≡ false
looks_still [] true is = absurd (false≢true is)
looks_still [] false is = refl
looks_still (line ∷ lines) ended is = absurd (false≢true is)

abbrev pub one_poll : ℤ → Piece → List Poll
one_poll moment piece = record { moment = moment; piece = piece } ∷ []

module _ (w : Watched) (some : 0 < w.unread.limit) (polls : List Poll) (given : List Received) (h : HasRead polls given w) (moment : ℤ) where
  pub read_nothing : HasRead (polls ++ one_poll moment Nothing) given w
  read_nothing = record {
    reading = nothing_came polls given w.unread w.moment moment some h.reading;
    places = h.places ∙ ap (λ b. w.began + length b) (sym (joined-nothing polls moment));
  }

  -- a poll that looked
  pub read_more : (piece : Piece) → looks w ≡ true → HasRead (polls ++ one_poll moment piece) given (polled piece moment w)
  read_more (Came bytes) is =
      let none = looks_none (lines_left w.unread) w.unread.ended is in
      let still = looks_still (lines_left w.unread) w.unread.ended is in
      let open_end : is_ended polls ≡ false = sym h.reading.ended ∙ still in
      let grown : length (joined (polls ++ one_poll moment (Came bytes))) ≡ length (joined polls) + length bytes
      = ap length (joined-append polls (one_poll moment (Came bytes)) open_end ∙ ap (λ t. joined polls ++ t) (append-nil bytes)) ∙ length-append (joined polls) bytes in
      record {
        reading = came polls given w.unread w.moment moment bytes some h.reading none still;
        places = omega (arith, h.places, grown, length-append w.unread.bytes bytes);
      }
  read_more End is =
      let none = looks_none (lines_left w.unread) w.unread.ended is in
      let still = looks_still (lines_left w.unread) w.unread.ended is in
      let open_end : is_ended polls ≡ false = sym h.reading.ended ∙ still in
      record {
        reading = end_came polls given w.unread w.moment moment some h.reading none still;
        places = h.places ∙ ap (λ b. w.began + length b) (sym (joined-append polls (one_poll moment End) open_end ∙ append-nil (joined polls)));
      }
  read_more Nothing is = read_nothing

module _ {F : Type 0} (files : FilesWords F) (moment : ℤ) where
  -- it looked
  pub looked_so : (old new : F) (w after : Watched) (bytes : List ℕ) → 0 < w.unread.limit → looks w ≡ true → Found files w old new bytes → after ≡ polled (piece_of w.ends bytes) moment w
      → WasPolled files moment old new w after
  looked_so old new w after bytes some is found after_is = record {
    piece = piece_of w.ends bytes;
    after_is = after_is;
    looked = λ _. (bytes, refl, found);
    stood = λ not. absurd (true≢false (sym is ∙ not));
    read = λ polls given h. subst (λ v. HasRead (polls ++ one_poll moment (piece_of w.ends bytes)) given v) (sym after_is) (read_more w some polls given h moment (piece_of w.ends bytes) is);
  }

  -- it didn't
  pub stood_so : (f : F) (w : Watched) → 0 < w.unread.limit → looks w ≡ false → WasPolled files moment f f w w
  stood_so f w some is = record {
    piece = Nothing;
    after_is = refl;
    looked = λ looked. absurd (true≢false (sym looked ∙ is));
    stood = λ _. (refl, refl);
    read = λ polls given h. read_nothing w some polls given h moment;
  }

  -- what a read found
  pub found_so : (w : Watched) (old new : F) (path : List ℕ) (place room count : ℕ) (after : List ℕ) (r : IsRead files path place room w.unread.bytes after old new count) → path ≡ w.path → place ≡ taken w → room ≡ room_at (taken w)
      → Found files w old new r.bytes
  found_so w old new path place room count after r path_is place_is room_is = record {
    seen = λ told.
        let content = files.shows old (files.calls old) in
        r.seen told ∙ ap (λ n. take room (drop place (bytes_of (content n)))) path_is ∙ ap₂ (λ n k. take k (drop n (bytes_of (content w.path)))) place_is room_is;
    within = omega (arith, r.counted, r.within, room_is);
    call = r.call;
  }

keeps_polled : (piece : Piece) (moment : ℤ) (w : Watched) → Keeps w (polled piece moment w)
keeps_polled (Came bytes) moment w = refl
keeps_polled End moment w = refl
keeps_polled Nothing moment w = refl

pub keeps_so : {F : Type 0} (files : FilesWords F) (moment : ℤ) (old new : F) (w after : Watched) → WasPolled files moment old new w after → Keeps w after
keeps_so files moment old new w after p = subst (Keeps w) (sym p.after_is) (keeps_polled p.piece moment w)

-- ---- what the input holds behind it

abbrev pub Holds : Unread → Unread → List ℕ → Type 0
Holds before held bytes = (held ≡ record before { bytes = held.bytes }) × (held.bytes ≡ before.bytes ++ bytes)

pub holds_more : (before held : Unread) (bytes : List ℕ) → Holds before held bytes → held ≡ record before { bytes = before.bytes ++ bytes }
holds_more before held bytes h = h.0 ∙ ap (λ b. record before { bytes = b }) h.1

pub holds_same : (before held : Unread) (bytes : List ℕ) → Holds before held bytes → length bytes ≡ 0 → held ≡ before
holds_same before held [] h none = holds_more before held [] h ∙ ap (λ b. record before { bytes = b }) (append-nil before.bytes)
holds_same before held (b ∷ bytes) h none = absurd (omega (arith, none))

took_none : (w : Watched) (held : Unread) (moment : ℤ) → held ≡ w.unread → (ends : Bool) → w.ends ≡ ends → (if ends then record w { unread = with_piece End held; moment = moment } else record w { unread = held }) ≡ polled (piece_of ends []) moment w
took_none w held moment same true is = ap (λ u. record w { unread = with_piece End u; moment = moment }) same
took_none w held moment same false is = ap (λ u. record w { unread = u }) same

pub took_in : (w : Watched) (held : Unread) (bytes : List ℕ) (moment : ℤ) → Holds w.unread held bytes → taken_in (length bytes) moment (record w { unread = held }) ≡ polled (piece_of w.ends bytes) moment w
took_in w held [] moment h = took_none w held moment (holds_same w.unread held [] h refl) w.ends refl
took_in w held (b ∷ bytes) moment h = ap (λ u. record w { unread = u; moment = moment }) (holds_more w.unread held (b ∷ bytes) h)
