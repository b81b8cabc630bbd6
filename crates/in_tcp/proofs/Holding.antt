-- The lines that are held, while they are looked for and given.
use Rattle.std.proofs.Common.{◌≡◌, ◌<◌, ◌≤◌, ◌⊎◌, inl, inr, ℕ, ◌+◌, suc, Bool, true, false, List, [], ◌∷◌, ◌++◌, length, take, drop, nat_eq, if◌then◌else◌, refl, sym, ap, ap₂, ◌∙◌, subst, arith, append-nil, length-append}
use Rattle.std.proofs.lemmas.Bool.{cond-true, cond-false, eqb-true, false≢true}
use Rattle.std.proofs.Math.Seq.{take-nil}
use Rattle.std.proofs.lemmas.List.{drop_all, length-drop, take_all}
use Rattle.io_traits.specs.Pieces.{Piece, Came, End, Nothing, bytes_in}
use Rattle.byte_lines.specs.Split.{RawLine, Ended, Full, IsRawLine, line_bytes}
use Rattle.byte_lines.specs.Text.{text_of}
use Rattle.byte_lines.specs.Lines.{line_text}
use Rattle.in_lines.specs.Polls.{Poll, Received}
use Rattle.in_lines.specs.Sources.{Look, made_by, left_by}
use Rattle.in_tcp.specs.Held.{GivesLine, HasNoNext, IsLast, IsNext, SameLines, lefts_in, lines_in, size_of}
use Rattle.in_tcp.specs.Lines.{HasNoLine, IsWholeFirst, Part, line_limit}
use Rattle.in_tcp.specs.Pieces.{IsFront, count_of, front_bytes, front_less, is_end, look_less, look_with, piece_less, piece_with}
use Rattle.in_tcp.specs.Rests.{Becomes, bytes_of}
use Rattle.in_tcp.specs.declared.receive_buffer.ReceiveBuffer.{ReceiveBuffer}
use Rattle.in_tcp.specs.declared.receive_buffer.NextLine.{NextLine}
use Rattle.in_tcp.specs.declared.pieces.PieceRecord.{PieceRecord}
use Rattle.in_tcp.specs.declared.pieces.ReadEvent.{ReadEvent}
use Rattle.in_tcp.specs.declared.pieces.ReadEvent.TheVariants.{Bytes}
use Rattle.in_tcp.specs.declared.pieces.ReadEvent.TheVariants.{End as AtEnd}
use Rattle.in_tcp.proofs.Laying.{mark}
use Rattle.in_tcp.proofs.Moving.{Lefts, Now, IsSame, Gives, same_first, given_first, no_look, over_lines, over_left, whole_lines_rest, whole_left_rest, none_lines, none_left, last_lines, end_lines}

-- nothing changed
now_same : (lefts : Lefts) (conn : ℕ) → Now conn (lefts conn) lefts lefts
now_same lefts conn n = by (nat_eq conn n) refl
  where
    by : (b : Bool) → nat_eq conn n ≡ b → lefts n ≡ (if b then lefts conn else lefts n)
    by true is = ap lefts (sym (eqb-true conn n is))
    by false differ = refl

raw_some : (line : RawLine) → IsRawLine line_limit line → 0 < length (line_bytes line)
raw_some (Ended bytes) is = omega (arith, length-append bytes (10 ∷ []))
raw_some (Full bytes) is = omega (arith, is.1)

module _ (m : PieceRecord) (bytes : List ℕ) (rest : List Look) where
  -- the first piece is given up, which has no bytes
  popped_as : (g : ReadEvent) (lefts : Lefts) → bytes ≡ [] → HasNoLine (lefts m.conn) → (is_end g ≡ true → lefts m.conn ≡ []) → IsSame lefts (look_with (mark m g) bytes ∷ rest) lefts rest
  popped_as (Bytes n) lefts none free end =
      no_look lefts m.conn (record { moment = m.moment; piece = Came bytes }) rest
      (ap (λ b. made_by line_limit (lefts m.conn) (Came b)) none ∙ none_lines (lefts m.conn) free)
      (ap (λ b. left_by line_limit (lefts m.conn) (Came b)) none ∙ none_left (lefts m.conn) free)
  popped_as AtEnd lefts none free end =
      no_look lefts m.conn (record { moment = m.moment; piece = End }) rest
      (ap (λ r. made_by line_limit r End) (end refl) ∙ end_lines) (sym (end refl))

  -- bytes of it go over to what was left
  moved_as : (g : ReadEvent) (old new : Lefts) (k : ℕ) → Now m.conn (old m.conn ++ take k bytes) old new → (is_end g ≡ true → bytes ≡ []) → IsSame old (look_with (mark m g) bytes ∷ rest) new (look_less k (look_with (mark m g) bytes) ∷ rest)
  moved_as (Bytes n) old new k now end =
      same_first old new m.conn (old m.conn ++ take k bytes) (record { moment = m.moment; piece = Came bytes }) (record { moment = m.moment; piece = Came (drop k bytes) }) rest now refl
      (over_left (old m.conn) bytes k) (over_lines (old m.conn) bytes k)
  moved_as AtEnd old new k now end =
      let none : old m.conn ++ take k bytes ≡ old m.conn = ap (λ b. old m.conn ++ take k b) (end refl) ∙ ap (λ t. old m.conn ++ t) (take-nil k) ∙ append-nil (old m.conn) in
      same_first old new m.conn (old m.conn) (record { moment = m.moment; piece = End }) (record { moment = m.moment; piece = End }) rest
      (subst (λ b. Now m.conn b old new) none now) refl refl refl

  -- a whole line among what was left is given
  rest_as : (g : ReadEvent) (old new : Lefts) (line : RawLine) (taken : ℕ) → Now m.conn (drop taken (old m.conn)) old new → IsRawLine line_limit line → old m.conn ≡ line_bytes line ++ drop taken (old m.conn)
      → Gives old (look_with (mark m g) bytes ∷ rest) new (look_with (mark m g) bytes ∷ rest) (m.conn, record { line = line_text line; moment = m.moment })
  rest_as g old new line taken now is whole =
      let poll : Poll = record { moment = m.moment; piece = piece_with g bytes } in
      given_first old new m.conn (drop taken (old m.conn)) poll poll rest now refl
      (whole_left_rest line (old m.conn) (drop taken (old m.conn)) (piece_with g bytes) is whole) (line_text line) (whole_lines_rest line (old m.conn) (drop taken (old m.conn)) (piece_with g bytes) is whole)

  -- the line that the end makes is given
  last_as : (g : ReadEvent) (old new : Lefts) (taken : ℕ) → is_end g ≡ true → Now m.conn (drop taken (old m.conn)) old new → HasNoLine (old m.conn) → 0 < length (old m.conn) → taken ≡ length (old m.conn)
      → Gives old (look_with (mark m g) bytes ∷ rest) new (look_with (mark m g) bytes ∷ rest) (m.conn, record { line = text_of (old m.conn); moment = m.moment })
  last_as (Bytes n) old new taken end now free some all = absurd (false≢true end)
  last_as AtEnd old new taken end now free some all =
      let poll : Poll = record { moment = m.moment; piece = End } in
      let none : drop taken (old m.conn) ≡ [] = drop_all taken (old m.conn) (omega (arith, all)) in
      given_first old new m.conn (drop taken (old m.conn)) poll poll rest now refl refl (text_of (old m.conn))
      (last_lines (old m.conn) free some ∙ ap (λ r. text_of (old m.conn) ∷ made_by line_limit r End) (sym none))

  -- a whole line of the piece is given, where nothing was left
  piece_as : (g : ReadEvent) (lefts : Lefts) (line : RawLine) (taken : ℕ) → lefts m.conn ≡ [] → (is_end g ≡ true → bytes ≡ []) → IsRawLine line_limit line → bytes ≡ line_bytes line ++ drop taken bytes
      → Gives lefts (look_with (mark m g) bytes ∷ rest) lefts (look_less taken (look_with (mark m g) bytes) ∷ rest) (m.conn, record { line = line_text line; moment = m.moment })
  piece_as (Bytes n) lefts line taken none end is whole =
      given_first lefts lefts m.conn (lefts m.conn) (record { moment = m.moment; piece = Came bytes }) (record { moment = m.moment; piece = Came (drop taken bytes) }) rest (now_same lefts m.conn) refl
      (ap (λ r. left_by line_limit r (Came bytes)) none ∙ whole_left_rest line bytes (drop taken bytes) Nothing is whole ∙ ap (λ r. left_by line_limit r (Came (drop taken bytes))) (sym none))
      (line_text line)
      (ap (λ r. made_by line_limit r (Came bytes)) none ∙ whole_lines_rest line bytes (drop taken bytes) Nothing is whole ∙ ap (λ r. line_text line ∷ made_by line_limit r (Came (drop taken bytes))) (sym none))
  piece_as AtEnd lefts line taken none end is whole =
      absurd (let some = raw_some line is in omega (arith, some, ap length (sym (end refl) ∙ whole), length-append (line_bytes line) (drop taken bytes)))

-- ---- of what is held

end_empty : (g : ReadEvent) (looks : List Look) → length (front_bytes looks) ≡ count_of g → is_end g ≡ true → front_bytes looks ≡ []
end_empty (Bytes n) looks long end = absurd (false≢true end)
end_empty AtEnd looks long end = no_length (front_bytes looks) long
  where
    no_length : (xs : List ℕ) → length xs ≡ 0 → xs ≡ []
    no_length [] none = refl
    no_length (x ∷ xs) none = absurd (omega (arith, none))

pub held_popped : (parts : List Part) (looks : List Look) (m : PieceRecord) → IsFront looks m → front_bytes looks ≡ [] → HasNoLine (bytes_of parts m.conn) → (is_end m.gave ≡ true → bytes_of parts m.conn ≡ []) → IsSame (bytes_of parts) looks (bytes_of parts) (drop 1 looks)
held_popped parts looks m front none free end =
    subst (λ ls. IsSame (bytes_of parts) ls (bytes_of parts) (drop 1 looks)) (sym front.is) (popped_as m (front_bytes looks) (drop 1 looks) m.gave (bytes_of parts) none free end)

pub held_moved : (old new : List Part) (looks : List Look) (m : PieceRecord) (k : ℕ) → IsFront looks m → Becomes m.conn (bytes_of old m.conn ++ take k (front_bytes looks)) old new → IsSame (bytes_of old) looks (bytes_of new) (front_less k looks)
held_moved old new looks m k front becomes =
    subst (λ ls. IsSame (bytes_of old) ls (bytes_of new) (front_less k looks)) (sym front.is)
    (subst (λ ls. IsSame (bytes_of old) (look_with m (front_bytes looks) ∷ drop 1 looks) (bytes_of new) ls) (sym (ap (front_less k) front.is))
    (moved_as m (front_bytes looks) (drop 1 looks) m.gave (bytes_of old) (bytes_of new) k becomes (end_empty m.gave looks front.long)))

abbrev next_of : NextLine → List ℕ → ℕ × Received
next_of next bytes = (next.mark.conn, record { line = text_of (take next.content_len bytes); moment = next.mark.moment })

-- the next line among what was left is given
pub held_rest : (old new : List Part) (looks : List Look) (next : NextLine) → IsFront looks next.mark → Becomes next.mark.conn (drop next.taken (bytes_of old next.mark.conn)) old new
    → IsWholeFirst (bytes_of old next.mark.conn) next.content_len next.taken ⊎ ((is_end next.mark.gave ≡ true) × IsLast (bytes_of old next.mark.conn) next.content_len next.taken)
    → Gives (bytes_of old) looks (bytes_of new) looks (next_of next (bytes_of old next.mark.conn))
held_rest old new looks next front becomes (inl w) =
    let m = next.mark in
    subst (λ ls. Gives (bytes_of old) ls (bytes_of new) ls (next_of next (bytes_of old m.conn))) (sym front.is)
    (subst (λ t. Gives (bytes_of old) (look_with m (front_bytes looks) ∷ drop 1 looks) (bytes_of new) (look_with m (front_bytes looks) ∷ drop 1 looks) (m.conn, record { line = text_of t; moment = m.moment })) w.content
    (rest_as m (front_bytes looks) (drop 1 looks) m.gave (bytes_of old) (bytes_of new) w.line next.taken becomes w.is w.whole))
held_rest old new looks next front becomes (inr l) =
    let m = next.mark in
    let all : bytes_of old m.conn ≡ take next.content_len (bytes_of old m.conn) = sym (take_all next.content_len (bytes_of old m.conn) (omega (arith, l.1.says_all))) in
    subst (λ ls. Gives (bytes_of old) ls (bytes_of new) ls (next_of next (bytes_of old m.conn))) (sym front.is)
    (subst (λ t. Gives (bytes_of old) (look_with m (front_bytes looks) ∷ drop 1 looks) (bytes_of new) (look_with m (front_bytes looks) ∷ drop 1 looks) (m.conn, record { line = text_of t; moment = m.moment })) all
    (last_as m (front_bytes looks) (drop 1 looks) m.gave (bytes_of old) (bytes_of new) next.taken l.0 becomes l.1.none l.1.some l.1.taken_all))

-- the next line of the first piece is given
pub held_piece : (parts : List Part) (looks : List Look) (next : NextLine) → IsFront looks next.mark → bytes_of parts next.mark.conn ≡ [] → IsWholeFirst (front_bytes looks) next.content_len next.taken
    → Gives (bytes_of parts) looks (bytes_of parts) (front_less next.taken looks) (next_of next (front_bytes looks))
held_piece parts looks next front none w =
    let m = next.mark in
    subst (λ ls. Gives (bytes_of parts) ls (bytes_of parts) (front_less next.taken looks) (next_of next (front_bytes looks))) (sym front.is)
    (subst (λ ls. Gives (bytes_of parts) (look_with m (front_bytes looks) ∷ drop 1 looks) (bytes_of parts) ls (next_of next (front_bytes looks))) (sym (ap (front_less next.taken) front.is))
    (subst (λ t. Gives (bytes_of parts) (look_with m (front_bytes looks) ∷ drop 1 looks) (bytes_of parts) (look_less next.taken (look_with m (front_bytes looks)) ∷ drop 1 looks) (m.conn, record { line = text_of t; moment = m.moment })) w.content
    (piece_as m (front_bytes looks) (drop 1 looks) m.gave (bytes_of parts) w.line next.taken none (end_empty m.gave looks front.long) w.is w.whole)))

-- the same for the calls
pub as_popped : (old new : ReceiveBuffer) (m : PieceRecord) → IsFront old.pieces m → front_bytes old.pieces ≡ [] → HasNoNext old m → new.rests ≡ old.rests → new.pieces ≡ drop 1 old.pieces → SameLines old new
as_popped old new m front none next rests pieces =
    let same = held_popped old.rests old.pieces m front none next.rest next.end in record {
      lines = ap₂ (λ p l. lines_in p l) rests pieces ∙ same.0;
      lefts = λ n. ap₂ (λ p l. lefts_in p l n) rests pieces ∙ same.1 n;
    }

pub as_moved : (old new : ReceiveBuffer) (m : PieceRecord) (k : ℕ) → IsFront old.pieces m → Becomes m.conn (bytes_of old.rests m.conn ++ take k (front_bytes old.pieces)) old.rests new.rests → new.pieces ≡ front_less k old.pieces → SameLines old new
as_moved old new m k front becomes pieces =
    let same = held_moved old.rests new.rests old.pieces m k front becomes in record {
      lines = ap (λ l. lines_in new.rests l) pieces ∙ same.0;
      lefts = λ n. ap (λ l. lefts_in new.rests l n) pieces ∙ same.1 n;
    }

pub first_in : (next : NextLine) (rest piece : List ℕ) → next.in_rest ≡ true
    → IsWholeFirst (if next.in_rest then rest else piece) next.content_len next.taken ⊎ ((is_end next.mark.gave ≡ true) × (next.in_rest ≡ true) × IsLast (if next.in_rest then rest else piece) next.content_len next.taken)
    → IsWholeFirst rest next.content_len next.taken ⊎ ((is_end next.mark.gave ≡ true) × IsLast rest next.content_len next.taken)
first_in next rest piece is (inl w) = inl (subst (λ b. IsWholeFirst b next.content_len next.taken) (cond-true _ _ _ is) w)
first_in next rest piece is (inr l) = inr (l.0, subst (λ b. IsLast b next.content_len next.taken) (cond-true _ _ _ is) l.2)

pub in_rest_given : (old : ReceiveBuffer) (rests : List Part) (next : NextLine) → IsNext old next → next.in_rest ≡ true → Becomes next.mark.conn (drop next.taken (bytes_of old.rests next.mark.conn)) old.rests rests → GivesLine old (record old { rests = rests }) next
in_rest_given old rests next is there becomes =
    let g = held_rest old.rests rests old.pieces next is.front becomes (first_in next (bytes_of old.rests next.mark.conn) (front_bytes old.pieces) there is.first) in record {
      lines = g.0 ∙ ap (λ b. next_of next b ∷ lines_in rests old.pieces) (sym (cond-true _ _ _ there));
      lefts = g.1;
    }

pub whole_in : (next : NextLine) (rest piece : List ℕ) → next.in_rest ≡ false
    → IsWholeFirst (if next.in_rest then rest else piece) next.content_len next.taken ⊎ ((is_end next.mark.gave ≡ true) × (next.in_rest ≡ true) × IsLast (if next.in_rest then rest else piece) next.content_len next.taken)
    → IsWholeFirst piece next.content_len next.taken
whole_in next rest piece is (inl w) = subst (λ b. IsWholeFirst b next.content_len next.taken) (cond-false _ _ _ is) w
whole_in next rest piece is (inr l) = absurd (false≢true (sym is ∙ l.1))

pub in_piece_given : (old : ReceiveBuffer) (pieces : List Look) (next : NextLine) → IsNext old next → next.in_rest ≡ false → pieces ≡ front_less next.taken old.pieces → GivesLine old (record old { pieces = pieces }) next
in_piece_given old pieces next is there less =
    let g = held_piece old.rests old.pieces next is.front (is.none_left there) (whole_in next (bytes_of old.rests next.mark.conn) (front_bytes old.pieces) there is.first) in record {
      lines = g.0 ∙ ap₂ (λ b l. next_of next b ∷ lines_in old.rests l) (sym (cond-false _ _ _ there)) (sym less);
      lefts = λ n. ap (λ l. lefts_in old.rests l n) less ∙ g.1 n;
    }

-- ---- how much is to be done

pub size_popped : (looks : List Look) (m : PieceRecord) → IsFront looks m → size_of (drop 1 looks) < size_of looks
size_popped looks m front = omega (arith, ap size_of front.is)

pub size_moved : (looks : List Look) (k : ℕ) → 0 < k → k ≤ length (front_bytes looks) → size_of (front_less k looks) < size_of looks
size_moved [] k some le = absurd (omega (arith, some, le))
size_moved ((conn, poll) ∷ looks) k some le = by poll.piece le
  where
    by : (piece : Piece) → k ≤ length (bytes_in piece) → suc (length (bytes_in (piece_less k piece))) + size_of looks < suc (length (bytes_in piece)) + size_of looks
    by (Came bytes) le = omega (arith, length-drop k bytes, some, le)
    by End le = absurd (omega (arith, some, le))
    by Nothing le = absurd (omega (arith, some, le))

pub same_then : (one two three : ReceiveBuffer) → SameLines one two → SameLines two three → SameLines one three
same_then one two three first second = record { lines = second.lines ∙ first.lines; lefts = λ n. second.lefts n ∙ first.lefts n }
