-- Whether a line is held, by the pieces one after another.
use Rattle.std.proofs.Common.{◌≡◌, ◌≢◌, ◌≤◌, ◌<◌, ◌+◌, ℕ, Bool, true, false, not, true≢false, List, [], ◌∷◌, ◌++◌, length, map, take, drop, nat_eq, if◌then◌else◌, refl, sym, ap, ap₂, ◌∙◌, arith, subst, append-nil, append_assoc, length-append}
use Rattle.std.specs.List.{AllByRecursion, flat_map}
use Rattle.std.proofs.Math.Seq.{take-add}
use Rattle.std.proofs.lemmas.Bool.{eqb-true, false≢true}
use Rattle.std.proofs.lemmas.List.{take-append-drop, take_all}
use Rattle.io_traits.specs.Pieces.{Piece, Came, End, Nothing, bytes_in}
use Rattle.byte_lines.specs.Split.{HasNoLineFeed, line_bytes, split_of}
use Rattle.byte_lines.specs.Lines.{last_line, line_text}
use Rattle.byte_lines.specs.Unread.{lines_left}
use Rattle.byte_lines.proofs.Splitting.{SplitsInto-split_of, all_append}
use Rattle.byte_lines.proofs.Giving.{unread, lines_left-nil, lines_left-waiting, rest_of-none_left}
use Rattle.in_lines.specs.Polls.{received_at}
use Rattle.in_lines.specs.Sources.{Look, from_source, left_after, left_by, lefts_after, made_by, made_from}
use Rattle.in_tcp.specs.Held.{lefts_in, lines_in}
use Rattle.in_tcp.specs.Lines.{Part, line_limit}
use Rattle.in_tcp.specs.Pieces.{IsFront, front_bytes, piece_with}
use Rattle.in_tcp.specs.Rests.{bytes_of}
use Rattle.in_tcp.specs.Search.{completes, first_completes, joined_of}
use Rattle.in_tcp.specs.Took.{is_none}
use Rattle.in_tcp.specs.declared.pieces.PieceRecord.{PieceRecord}
use Rattle.in_tcp.specs.declared.pieces.ReadEvent.{ReadEvent}
use Rattle.in_tcp.specs.declared.pieces.ReadEvent.TheVariants.{Bytes}
use Rattle.in_tcp.specs.declared.pieces.ReadEvent.TheVariants.{End as AtEnd}
use Rattle.in_tcp.specs.declared.receive_buffer.ReceiveBuffer.{ReceiveBuffer}
use Rattle.in_tcp.proofs.Taking.{made_append}

-- ---- lists that are empty

none_in_front : {X : Type 0} (xs ys : List X) → xs ++ ys ≡ [] → xs ≡ []
none_in_front [] ys is = refl
none_in_front (x ∷ xs) ys is = absurd cc

none_behind : {X : Type 0} (xs ys : List X) → xs ++ ys ≡ [] → ys ≡ []
none_behind [] ys is = is
none_behind (x ∷ xs) ys is = absurd cc

none_mapped : {A B : Type 0} (f : A → B) (xs : List A) → map f xs ≡ [] → xs ≡ []
none_mapped f [] is = refl
none_mapped f (x ∷ xs) is = absurd cc

pub is_none-nil : {X : Type 0} (xs : List X) → is_none xs ≡ true → xs ≡ []
is_none-nil [] is = refl
is_none-nil (x ∷ xs) is = absurd (false≢true is)

is_none-not : {X : Type 0} (xs : List X) → (xs ≡ [] → ⊥) → is_none xs ≡ false
is_none-not [] some = absurd (some refl)
is_none-not (x ∷ xs) some = refl

all_in_front : {X : Type 0} (P : X → Type 0) (xs ys : List X) → AllByRecursion P (xs ++ ys) → AllByRecursion P xs
all_in_front P [] ys all = tt
all_in_front P (x ∷ xs) ys all = (all.0, all_in_front P xs ys all.1)

all_behind : {X : Type 0} (P : X → Type 0) (xs ys : List X) → AllByRecursion P (xs ++ ys) → AllByRecursion P ys
all_behind P [] ys all = all
all_behind P (x ∷ xs) ys all = all_behind P xs ys all.1

-- ---- what no line is whole in

free_whole : (bytes : List ℕ) → lines_left (unread line_limit bytes false) ≡ [] → ((split_of line_limit bytes).rest ≡ bytes) × HasNoLineFeed bytes × (length bytes < line_limit)
free_whole bytes none =
    let r = rest_of-none_left (unread line_limit bytes false) (omega arith) refl none in
    let s = SplitsInto-split_of line_limit bytes (omega arith) in
    (r.1, subst HasNoLineFeed r.1 s.no_line_feed, subst (λ b. length b < line_limit) r.1 s.short)

none_last : (rest : List ℕ) → last_line rest ≡ [] → rest ≡ []
none_last [] is = refl
none_last (b ∷ rest) is = absurd cc

none_at_end : (left : List ℕ) → lines_left (unread line_limit left true) ≡ [] → left ≡ []
none_at_end left none =
    let s = split_of line_limit left in
    let lines : s.lines ≡ [] = none_mapped line_text s.lines (none_in_front (map line_text s.lines) (last_line s.rest) none) in
    let rest : s.rest ≡ [] = none_last s.rest (none_behind (map line_text s.lines) (last_line s.rest) none) in
    (SplitsInto-split_of line_limit left (omega arith)).whole ∙ ap (λ ls. flat_map line_bytes ls ++ s.rest) lines ∙ rest

-- a piece that makes no line whole is left behind what was left
piece_left : (left : List ℕ) (piece : Piece) → made_by line_limit left piece ≡ [] → (left_by line_limit left piece ≡ left ++ bytes_in piece) × HasNoLineFeed (left ++ bytes_in piece)
piece_left left (Came bytes) none = let f = free_whole (left ++ bytes) none in (f.0, f.1)
piece_left left End none = let is = none_at_end left none in (sym (ap (λ l. l ++ []) is), subst (λ l. HasNoLineFeed (l ++ [])) (sym is) tt)
piece_left left Nothing none = let f = free_whole left none in (f.0 ∙ sym (append-nil left), subst HasNoLineFeed (sym (append-nil left)) f.1)

abbrev Behind : List ℕ → List ℕ → List ℕ → Type 0
Behind old more new = (new ≡ old ++ more) × (HasNoLineFeed old → HasNoLineFeed new)

one_left : (f : ℕ → List ℕ) (look : Look) → made_by line_limit (f look.0) look.1.piece ≡ [] → (n : ℕ) → Behind (f n) (if nat_eq look.0 n then bytes_in look.1.piece else []) (left_after line_limit f look n)
one_left f look made n = by (nat_eq look.0 n) refl
  where
    by : (b : Bool) → nat_eq look.0 n ≡ b → Behind (f n) (if b then bytes_in look.1.piece else []) (if b then left_by line_limit (f n) look.1.piece else f n)
    by true is =
        let s = subst (λ m. (left_by line_limit (f m) look.1.piece ≡ f m ++ bytes_in look.1.piece) × HasNoLineFeed (f m ++ bytes_in look.1.piece)) (eqb-true look.0 n is) (piece_left (f look.0) look.1.piece made) in
        (s.0, λ free. subst HasNoLineFeed (sym s.0) s.1)
    by false differ = (sym (append-nil (f n)), λ free. free)

-- looks that make no line whole leave all that they found
all_left : (f : ℕ → List ℕ) (looks : List Look) → made_from line_limit f looks ≡ [] → (n : ℕ) → Behind (f n) (joined_of n looks) (lefts_after line_limit f looks n)
all_left f [] none n = (sym (append-nil (f n)), λ free. free)
all_left f (look ∷ looks) none n =
    let g = left_after line_limit f look in
    let lines = made_by line_limit (f look.0) look.1.piece in
    let first = from_source look.0 (received_at look.1.moment lines) in
    let made : lines ≡ [] = none_mapped _ lines (none_mapped _ (received_at look.1.moment lines) (none_in_front first (made_from line_limit g looks) none)) in
    let here = one_left f look made n in
    let later = all_left g looks (none_behind first (made_from line_limit g looks) none) n in
    (later.0 ∙ ap (λ l. l ++ joined_of n looks) here.0 ∙ append_assoc (f n) (if nat_eq look.0 n then bytes_in look.1.piece else []) (joined_of n looks), λ free. later.1 (here.1 free))

-- ---- one piece

module _ (rest joined bytes left : List ℕ) (behind : Behind rest joined left) where
  long : length (left ++ bytes) ≡ length rest + length joined + length bytes
  long = length-append left bytes ∙ omega (arith, ap length behind.0, length-append rest joined)

  pub not_whole : HasNoLineFeed bytes → HasNoLineFeed rest → length rest + length joined + length bytes < line_limit → is_none (made_by line_limit left (Came bytes)) ≡ true
  not_whole free_bytes free_rest short = ap is_none (lines_left-waiting line_limit (left ++ bytes) (omega (arith, long, short)) (all_append (λ b. b ≢ 10) left bytes (behind.1 free_rest) free_bytes))

  pub whole_by_feed : (HasNoLineFeed bytes → ⊥) → is_none (made_by line_limit left (Came bytes)) ≡ false
  whole_by_feed feed = is_none-not _ (λ none. feed (all_behind (λ b. b ≢ 10) left bytes (free_whole (left ++ bytes) none).1))

  pub whole_by_length : line_limit ≤ length rest + length joined + length bytes → is_none (made_by line_limit left (Came bytes)) ≡ false
  whole_by_length full = is_none-not _ (λ none. let short = (free_whole (left ++ bytes) none).2 in omega (arith, long, short, full))

  pub whole_by_rest : (HasNoLineFeed rest → ⊥) → is_none (made_by line_limit left (Came bytes)) ≡ false
  whole_by_rest feed = is_none-not _ (λ none. feed (all_in_front (λ b. b ≢ 10) rest joined (subst HasNoLineFeed behind.0 (all_in_front (λ b. b ≢ 10) left bytes (free_whole (left ++ bytes) none).1))))

  pub whole_at_end : 0 < length rest + length joined → is_none (made_by line_limit left End) ≡ false
  whole_at_end some = is_none-not _ (λ none. let no_bytes = ap length (none_at_end left none) in omega (arith, some, no_bytes, ap length behind.0, length-append rest joined))

  pub none_at_all : length rest + length joined ≡ 0 → is_none (made_by line_limit left End) ≡ true
  none_at_all none =
      let no_bytes : left ≡ [] = nil_of left (omega (arith, none, ap length behind.0, length-append rest joined)) in
      ap (λ l. is_none (made_by line_limit l End)) no_bytes ∙ ap is_none (lines_left-nil line_limit true (omega arith))
    where
      nil_of : (xs : List ℕ) → length xs ≡ 0 → xs ≡ []
      nil_of [] is = refl
      nil_of (x ∷ xs) is = absurd (omega (arith, is))

module _ (h : ReceiveBuffer) (place : ℕ) where
  pub left_of_piece : lines_in h.rests (take place h.pieces) ≡ [] → (n : ℕ) → Behind (bytes_of h.rests n) (joined_of n (take place h.pieces)) (lefts_in h.rests (take place h.pieces) n)
  left_of_piece none n = all_left (bytes_of h.rests) (take place h.pieces) none n

  pub completes_by : (m : PieceRecord) → IsFront (drop place h.pieces) m
      → completes h place ≡ not (is_none (made_by line_limit (lefts_in h.rests (take place h.pieces) m.conn) (piece_with m.gave (front_bytes (drop place h.pieces)))))
  completes_by m front = ap (first_completes h.rests (take place h.pieces)) front.is

-- ---- from one piece to the next

not_false : (b : Bool) → not b ≡ false → b ≡ true
not_false true is = refl
not_false false is = absurd (true≢false is)

first_none : (parts : List Part) (before looks : List Look) → lines_in parts before ≡ [] → first_completes parts before looks ≡ false → lines_in parts (before ++ take 1 looks) ≡ []
first_none parts before [] none is = ap (lines_in parts) (append-nil before) ∙ none
first_none parts before (look ∷ looks) none is =
    let made = is_none-nil (made_by line_limit (lefts_in parts before look.0) look.1.piece) (not_false _ is) in
    made_append (bytes_of parts) before (look ∷ []) ∙ ap₂ (λ l t. l ++ (from_source look.0 (received_at look.1.moment t) ++ [])) none made

some_made : {A B C : Type 0} (f : A → B) (g : B → C) (xs : List A) (more : List C) → not (is_none xs) ≡ true → is_none (map g (map f xs) ++ more) ≡ false
some_made f g [] more is = absurd (false≢true is)
some_made f g (x ∷ xs) more is = refl

first_some : (parts : List Part) (before looks : List Look) → lines_in parts before ≡ [] → first_completes parts before looks ≡ true → is_none (lines_in parts (before ++ looks)) ≡ false
first_some parts before [] none is = absurd (false≢true is)
first_some parts before (look ∷ looks) none is =
    let g = lefts_in parts before in
    ap is_none (made_append (bytes_of parts) before (look ∷ looks) ∙ ap (λ l. l ++ made_from line_limit g (look ∷ looks)) none)
    ∙ some_made _ _ (made_by line_limit (g look.0) look.1.piece) (made_from line_limit (left_after line_limit g look) looks) is

module _ (h : ReceiveBuffer) (place : ℕ) (none : lines_in h.rests (take place h.pieces) ≡ []) where
  pub none_more : completes h place ≡ false → lines_in h.rests (take (place + 1) h.pieces) ≡ []
  none_more is = ap (lines_in h.rests) (take-add place 1 h.pieces) ∙ first_none h.rests (take place h.pieces) (drop place h.pieces) none is

  pub some_here : completes h place ≡ true → true ≡ not (is_none (lines_in h.rests h.pieces))
  some_here is = sym (ap not (ap (λ l. is_none (lines_in h.rests l)) (sym (take-append-drop place h.pieces)) ∙ first_some h.rests (take place h.pieces) (drop place h.pieces) none is))

  pub none_of_all : length h.pieces ≤ place → false ≡ not (is_none (lines_in h.rests h.pieces))
  none_of_all past = sym (ap (λ l. not (is_none l)) (ap (lines_in h.rests) (sym (take_all place h.pieces past)) ∙ none))

-- ---- whether the piece of a place makes a line whole

module _ (h : ReceiveBuffer) (place : ℕ) (none : lines_in h.rests (take place h.pieces) ≡ []) (m : PieceRecord) (front : IsFront (drop place h.pieces) m) where
  abbrev bytes : List ℕ
  bytes = front_bytes (drop place h.pieces)

  abbrev left : List ℕ
  left = lefts_in h.rests (take place h.pieces) m.conn

  abbrev joined : List ℕ
  joined = joined_of m.conn (take place h.pieces)

  behind : Behind (bytes_of h.rests m.conn) joined left
  behind = left_of_piece h place none m.conn

  whole_by : (g : ReadEvent) → m.gave ≡ g → (b : Bool) → is_none (made_by line_limit left (piece_with g bytes)) ≡ b → completes h place ≡ not b
  whole_by g is b made = completes_by h place m front ∙ ap not (ap (λ g'. is_none (made_by line_limit left (piece_with g' bytes))) is ∙ made)

  pub feed_in_piece : (n : ℕ) → m.gave ≡ Bytes n → (HasNoLineFeed bytes → ⊥) → true ≡ completes h place
  feed_in_piece n is feed = sym (whole_by (Bytes n) is false (whole_by_feed (bytes_of h.rests m.conn) joined bytes left behind feed))

  pub feed_in_rest : (n : ℕ) → m.gave ≡ Bytes n → (HasNoLineFeed (bytes_of h.rests m.conn) → ⊥) → true ≡ completes h place
  feed_in_rest n is feed = sym (whole_by (Bytes n) is false (whole_by_rest (bytes_of h.rests m.conn) joined bytes left behind feed))

  pub by_length : (n : ℕ) → m.gave ≡ Bytes n → HasNoLineFeed bytes → HasNoLineFeed (bytes_of h.rests m.conn) → (b : Bool) → (b ≡ true → line_limit ≤ length (bytes_of h.rests m.conn) + length joined + length bytes)
      → (b ≡ false → length (bytes_of h.rests m.conn) + length joined + length bytes < line_limit) → b ≡ completes h place
  by_length n is free_bytes free_rest true more less = sym (whole_by (Bytes n) is false (whole_by_length (bytes_of h.rests m.conn) joined bytes left behind (more refl)))
  by_length n is free_bytes free_rest false more less = sym (whole_by (Bytes n) is true (not_whole (bytes_of h.rests m.conn) joined bytes left behind free_bytes free_rest (less refl)))

  pub by_end : m.gave ≡ AtEnd → (b : Bool) → (b ≡ true → 0 < length (bytes_of h.rests m.conn) + length joined) → (b ≡ false → length (bytes_of h.rests m.conn) + length joined ≡ 0) → b ≡ completes h place
  by_end is true some none' = sym (whole_by AtEnd is false (whole_at_end (bytes_of h.rests m.conn) joined bytes left behind (some refl)))
  by_end is false some none' = sym (whole_by AtEnd is true (none_at_all (bytes_of h.rests m.conn) joined bytes left behind (none' refl)))
