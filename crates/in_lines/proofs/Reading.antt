-- An input that reads bytes, from one poll to the next and from one line to the next.
use Rattle.std.proofs.Common.{◌≡◌, ◌<◌, ◌+◌, ℕ, suc, ℤ, Bool, true, false, true≢false, inl, inr, List, [], ◌∷◌, ◌++◌, map, length, take, drop, refl, sym, ap, ◌∙◌, subst, arith, append_assoc, append-nil, length-append}
use Rattle.std.specs.List.{flat_map, AllByRecursion}
use Rattle.std.proofs.lemmas.Grind.{flat_map-append}
use Rattle.std.proofs.Math.Seq.{drop-append_seam, take-append_seam}
use Rattle.io_traits.specs.Pieces.{Piece, Came, End, Nothing}
use Rattle.byte_lines.specs.Split.{HasNoLineFeed, RawLine, IsRawLine, line_bytes, split_of}
use Rattle.byte_lines.specs.Text.{text_of}
use Rattle.byte_lines.specs.Lines.{line_text, whole_lines, last_line}
use Rattle.byte_lines.specs.Unread.{Unread, lines_left}
use Rattle.byte_lines.proofs.Splitting.{split_of-line, split_of-only, all_append}
use Rattle.byte_lines.proofs.Giving.{unread, lines_left-line, lines_left-last, lines_left-nil, rest_of-none_left}
use Rattle.in_lines.specs.Polls.{Poll, joined, is_ended, lines_through, Received, received_at, received_after, received, rest_through}
use Rattle.in_lines.specs.Readings.{StandBefore, AreAll, HasBehind, IsReading, with_piece}
use Rattle.in_lines.proofs.Receiving.{joined-append, joined-ended, is_ended-append, is_ended-ended, received_after-append, received-more, received-nil}

-- ---- the bytes behind the first lines

raw_some : (limit : ℕ) (line : RawLine) → 0 < limit → IsRawLine limit line → 0 < length (line_bytes line)
raw_some limit (RawLine.Ended bytes) some is = omega (arith, length-append bytes (10 ∷ []))
raw_some limit (RawLine.Full bytes) some is = omega (arith, is.1)

-- the lines of bytes that begin with some
pub split_of-lines : (limit : ℕ) (lines : List RawLine) (behind : List ℕ) → 0 < limit → AllByRecursion (IsRawLine limit) lines
    → split_of limit (flat_map line_bytes lines ++ behind) ≡ record { lines = lines ++ (split_of limit behind).lines; rest = (split_of limit behind).rest }
split_of-lines limit [] behind some each = refl
split_of-lines limit (line ∷ lines) behind some each =
    ap (split_of limit) (append_assoc (line_bytes line) (flat_map line_bytes lines) behind) ∙ split_of-line limit line (flat_map line_bytes lines ++ behind) some each.0
    ∙ ap (λ s. record { lines = line ∷ s.lines; rest = s.rest }) (split_of-lines limit lines behind some each.1)

too_many : (limit : ℕ) (bytes : List ℕ) (ended : Bool) (count : ℕ) (one other : List ℕ) → 0 < limit → StandBefore limit bytes count one → AreAll limit bytes ended count other → ⊥
too_many limit bytes ended count one other some s a =
    let mine = ap (λ x. x.lines) (split_of-lines limit s.lines one some s.each) in
    let theirs = (split_of-only limit bytes a.rest a.lines some a.splits).0 in
    let same : a.lines ≡ s.lines ++ (split_of limit one).lines = theirs ∙ ap (λ b. (split_of limit b).lines) s.whole ∙ mine in
    omega (arith, ap length same, length-append s.lines (split_of limit one).lines, s.counted, a.counted)

pub one_behind : (limit : ℕ) (bytes : List ℕ) (ended : Bool) (count : ℕ) (one other : List ℕ) → 0 < limit → HasBehind limit bytes ended count one → HasBehind limit bytes ended count other → one ≡ other
one_behind limit bytes ended count one other some (inl s) (inl t) =
    let mine = split_of-lines limit s.lines one some s.each in
    let theirs = split_of-lines limit t.lines other some t.each in
    let both : s.lines ++ (split_of limit one).lines ≡ t.lines ++ (split_of limit other).lines = sym (ap (λ x. x.lines) mine) ∙ ap (λ b. (split_of limit b).lines) (sym s.whole ∙ t.whole) ∙ ap (λ x. x.lines) theirs in
    let long : length s.lines ≡ length t.lines = s.counted ∙ sym t.counted in
    let lines : s.lines ≡ t.lines = sym (take-append_seam s.lines (split_of limit one).lines) ∙ ap (take (length s.lines)) both ∙ ap (λ n. take n (t.lines ++ (split_of limit other).lines)) long ∙ take-append_seam t.lines (split_of limit other).lines in
    let f = flat_map line_bytes s.lines in
    sym (drop-append_seam f one) ∙ ap (drop (length f)) (sym s.whole ∙ t.whole ∙ ap (λ ls. flat_map line_bytes ls ++ other) (sym lines)) ∙ drop-append_seam f other
one_behind limit bytes ended count one other some (inl s) (inr a) = absurd (too_many limit bytes ended count one other some s a)
one_behind limit bytes ended count one other some (inr a) (inl s) = absurd (too_many limit bytes ended count other one some s a)
one_behind limit bytes ended count one other some (inr a) (inr b) = a.none ∙ sym b.none

-- ---- polls

reading_all : (polls : List Poll) (given : List Received) (u : Unread) (moment : ℤ) → IsReading polls given u moment → lines_left u ≡ [] → given ≡ received u.limit polls
reading_all polls given u moment is none = sym (append-nil given) ∙ ap (λ l. given ++ received_at moment l) (sym none) ∙ sym is.lines

abbrev Settled : Unread → List Poll → Type 0
Settled u polls = u.bytes ≡ rest_through u.limit polls

settled : (polls : List Poll) (given : List Received) (u : Unread) (moment : ℤ) → 0 < u.limit → IsReading polls given u moment → lines_left u ≡ [] → u.ended ≡ false → Settled u polls
settled polls given u moment some is none still = by is.bytes
  where
    by : HasBehind u.limit (joined polls) u.ended (length given) u.bytes → Settled u polls
    by (inl s) = sym ((rest_of-none_left u some still none).1) ∙ sym (ap (λ x. x.rest) (split_of-lines u.limit s.lines u.bytes some s.each)) ∙ ap (λ b. (split_of u.limit b).rest) (sym s.whole)
    by (inr a) = absurd (true≢false (sym a.at_end ∙ still))

abbrev one_poll : ℤ → Piece → List Poll
one_poll moment piece = record { moment = moment; piece = piece } ∷ []

-- bytes came
pub came : (polls : List Poll) (given : List Received) (u : Unread) (before moment : ℤ) (bytes : List ℕ) → 0 < u.limit → IsReading polls given u before → lines_left u ≡ [] → u.ended ≡ false
    → IsReading (polls ++ one_poll moment (Came bytes)) given (with_piece (Came bytes) u) moment
came polls given u before moment bytes some is none still =
    let open_end : is_ended polls ≡ false = sym is.ended ∙ still in
    let now : u.bytes ++ bytes ≡ rest_through u.limit polls ++ bytes = ap (λ t. t ++ bytes) (settled polls given u before some is none still) in
    let grown : joined (polls ++ one_poll moment (Came bytes)) ≡ joined polls ++ bytes = joined-append polls (one_poll moment (Came bytes)) open_end ∙ ap (λ t. joined polls ++ t) (append-nil bytes) in
    let whole : whole_lines u.limit (rest_through u.limit polls ++ bytes) ≡ lines_left (with_piece (Came bytes) u)
    = ap (whole_lines u.limit) (sym now) ∙ sym (append-nil (whole_lines u.limit (u.bytes ++ bytes))) ∙ ap (λ e. lines_left (unread u.limit (u.bytes ++ bytes) e)) (sym still) in
    record {
      lines = received-more u.limit polls moment (Came bytes) some open_end ∙ ap (λ r. r ++ received_at moment (whole_lines u.limit (rest_through u.limit polls ++ bytes))) (sym (reading_all polls given u before is none))
          ∙ ap (λ l. given ++ received_at moment l) whole;
      bytes = by is.bytes grown;
      ended = still ∙ sym open_end ∙ sym (is_ended-append polls (one_poll moment (Came bytes)) open_end ∙ sym open_end);
    }
  where
    by : {all : List ℕ} → HasBehind u.limit (joined polls) u.ended (length given) u.bytes → all ≡ joined polls ++ bytes → HasBehind u.limit all u.ended (length given) (u.bytes ++ bytes)
    by (inl s) grown = inl (record { lines = s.lines; each = s.each; counted = s.counted; whole = grown ∙ ap (λ t. t ++ bytes) s.whole ∙ append_assoc (flat_map line_bytes s.lines) u.bytes bytes })
    by (inr a) grown = absurd (true≢false (sym a.at_end ∙ still))

-- the end came
pub end_came : (polls : List Poll) (given : List Received) (u : Unread) (before moment : ℤ) → 0 < u.limit → IsReading polls given u before → lines_left u ≡ [] → u.ended ≡ false
    → IsReading (polls ++ one_poll moment End) given (with_piece End u) moment
end_came polls given u before moment some is none still =
    let open_end : is_ended polls ≡ false = sym is.ended ∙ still in
    let same : joined (polls ++ one_poll moment End) ≡ joined polls = joined-append polls (one_poll moment End) open_end ∙ append-nil (joined polls) in
    let split = (rest_of-none_left u some still none).0 in
    let last : last_line (rest_through u.limit polls) ≡ lines_left (with_piece End u)
    = ap last_line (sym (settled polls given u before some is none still)) ∙ ap (λ s. map line_text s.lines ++ last_line s.rest) (sym split) in
    record {
      lines = received-more u.limit polls moment End some open_end ∙ ap (λ r. r ++ received_at moment (last_line (rest_through u.limit polls))) (sym (reading_all polls given u before is none))
          ∙ ap (λ l. given ++ received_at moment l) last;
      bytes = by is.bytes same;
      ended = sym (is_ended-append polls (one_poll moment End) open_end);
    }
  where
    by : {all : List ℕ} → HasBehind u.limit (joined polls) u.ended (length given) u.bytes → all ≡ joined polls → HasBehind u.limit all true (length given) u.bytes
    by (inl s) same = inl (record { lines = s.lines; each = s.each; counted = s.counted; whole = same ∙ s.whole })
    by (inr a) same = absurd (true≢false (sym a.at_end ∙ still))

-- nothing came
received-nothing : (limit : ℕ) (polls : List Poll) (moment : ℤ) → 0 < limit → received limit (polls ++ one_poll moment Nothing) ≡ received limit polls
unfolding received
received-nothing limit polls moment some = elim (is_ended polls) as (λ e. is_ended polls ≡ e → received limit (polls ++ one_poll moment Nothing) ≡ received limit polls) [
  | false ↦ λ still. received-more limit polls moment Nothing some still ∙ append-nil (received limit polls)
  | true ↦ λ is.
      let mine = lines_through limit polls in
      let same : lines_through limit (polls ++ one_poll moment Nothing) ≡ mine
      = ap (λ t. lines_left (unread limit t (is_ended (polls ++ one_poll moment Nothing)))) (joined-ended polls (one_poll moment Nothing) is) ∙ ap (λ e. lines_left (unread limit (joined polls) e)) (is_ended-ended polls (one_poll moment Nothing) is ∙ sym is) in
      received_after-append limit [] polls (one_poll moment Nothing)
      ∙ ap (λ l. received_after limit [] polls ++ (received_at moment (drop (length mine) l) ++ [])) (same ∙ sym (append-nil mine))
      ∙ ap (λ l. received_after limit [] polls ++ (received_at moment l ++ [])) (drop-append_seam mine [])
      ∙ append-nil (received_after limit [] polls)
] refl

pub joined-nothing : (polls : List Poll) (moment : ℤ) → joined (polls ++ one_poll moment Nothing) ≡ joined polls
joined-nothing polls moment = elim (is_ended polls) as (λ e. is_ended polls ≡ e → joined (polls ++ one_poll moment Nothing) ≡ joined polls) [
  | false ↦ λ still. joined-append polls (one_poll moment Nothing) still ∙ append-nil (joined polls)
  | true ↦ λ is. joined-ended polls (one_poll moment Nothing) is
] refl

is_ended-nothing : (polls : List Poll) (moment : ℤ) → is_ended (polls ++ one_poll moment Nothing) ≡ is_ended polls
is_ended-nothing polls moment = elim (is_ended polls) as (λ e. is_ended polls ≡ e → is_ended (polls ++ one_poll moment Nothing) ≡ is_ended polls) [
  | false ↦ λ still. is_ended-append polls (one_poll moment Nothing) still ∙ sym still
  | true ↦ λ is. is_ended-ended polls (one_poll moment Nothing) is ∙ sym is
] refl

pub nothing_came : (polls : List Poll) (given : List Received) (u : Unread) (before moment : ℤ) → 0 < u.limit → IsReading polls given u before → IsReading (polls ++ one_poll moment Nothing) given u before
nothing_came polls given u before moment some is = record {
  lines = received-nothing u.limit polls moment some ∙ is.lines;
  bytes = subst (λ b. HasBehind u.limit b u.ended (length given) u.bytes) (sym (joined-nothing polls moment)) is.bytes;
  ended = is.ended ∙ sym (is_ended-nothing polls moment);
}

-- ---- lines

abbrev one_line : List ℕ → ℤ → List Received
one_line text moment = record { line = text; moment = moment } ∷ []

one_given : (polls : List Poll) (given : List Received) (u : Unread) (moment : ℤ) (text : List ℕ) (more : List (List ℕ)) → IsReading polls given u moment → lines_left u ≡ text ∷ more
    → received u.limit polls ≡ (given ++ one_line text moment) ++ received_at moment more
one_given polls given u moment text more is first = is.lines ∙ ap (λ l. given ++ received_at moment l) first ∙ sym (append_assoc given (one_line text moment) (received_at moment more))

-- a whole line is given
pub line_given : (polls : List Poll) (given : List Received) (u : Unread) (moment : ℤ) (line : RawLine) (behind : List ℕ) → 0 < u.limit → IsReading polls given u moment → IsRawLine u.limit line → u.bytes ≡ line_bytes line ++ behind
    → IsReading polls (given ++ one_line (line_text line) moment) (record u { bytes = behind }) moment
line_given polls given u moment line behind some is raw whole = record {
  lines = one_given polls given u moment (line_text line) (lines_left (record u { bytes = behind })) is
      (ap (λ b. lines_left (unread u.limit b u.ended)) whole ∙ lines_left-line u.limit line behind u.ended some raw);
  bytes = by is.bytes;
  ended = is.ended;
}
  where
    by : HasBehind u.limit (joined polls) u.ended (length given) u.bytes → HasBehind u.limit (joined polls) u.ended (length (given ++ one_line (line_text line) moment)) behind
    by (inl s) = inl (record {
      lines = s.lines ++ line ∷ [];
      each = all_append (IsRawLine u.limit) s.lines (line ∷ []) s.each (raw, tt);
      counted = length-append s.lines (line ∷ []) ∙ ap (λ n. n + 1) s.counted ∙ sym (length-append given (one_line (line_text line) moment));
      whole = s.whole ∙ ap (λ t. flat_map line_bytes s.lines ++ t) (whole ∙ ap (λ t. t ++ behind) (sym (append-nil (line_bytes line)))) ∙ sym (append_assoc (flat_map line_bytes s.lines) (line_bytes line ++ []) behind)
          ∙ ap (λ t. t ++ behind) (sym (flat_map-append line_bytes s.lines (line ∷ [])));
    })
    by (inr a) = absurd (let long = raw_some u.limit line some raw in omega (arith, long, ap length (sym whole ∙ a.none), length-append (line_bytes line) behind))

-- the line is given that the end makes of what is left
pub last_given : (polls : List Poll) (given : List Received) (u : Unread) (moment : ℤ) → 0 < u.limit → IsReading polls given u moment → HasNoLineFeed u.bytes → length u.bytes < u.limit → 0 < length u.bytes → u.ended ≡ true
    → IsReading polls (given ++ one_line (text_of u.bytes) moment) (record u { bytes = [] }) moment
last_given polls given u moment some is free short more ended = record {
  lines = one_given polls given u moment (text_of u.bytes) (lines_left (record u { bytes = [] })) is
      (ap (λ e. lines_left (unread u.limit u.bytes e)) ended ∙ lines_left-last u.limit u.bytes more short free ∙ ap (λ l. text_of u.bytes ∷ l) (sym (lines_left-nil u.limit u.ended some)));
  bytes = by is.bytes;
  ended = is.ended;
}
  where
    by : HasBehind u.limit (joined polls) u.ended (length given) u.bytes → HasBehind u.limit (joined polls) u.ended (length (given ++ one_line (text_of u.bytes) moment)) []
    by (inl s) = inr (record {
      lines = s.lines;
      rest = u.bytes;
      splits = record { whole = s.whole; each = s.each; no_line_feed = free; short = short };
      counted = ap suc s.counted ∙ omega (arith, length-append given (one_line (text_of u.bytes) moment));
      some = more;
      at_end = ended;
      none = refl;
    })
    by (inr a) = absurd (omega (arith, more, ap length a.none))

-- ---- the beginning

pub begun : (limit : ℕ) (moment : ℤ) → 0 < limit → IsReading [] [] (unread limit [] false) moment
begun limit moment some = record {
  lines = received-nil limit ∙ ap (received_at moment) (sym (lines_left-nil limit false some));
  bytes = inl (record { lines = []; each = tt; counted = refl; whole = refl });
  ended = refl;
}
