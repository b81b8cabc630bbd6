-- The lines of several sources beside each other.
use Rattle.std.proofs.Common.{◌≡◌, ◌<◌, ℕ, ℤ, Bool, true, false, List, [], ◌∷◌, ◌++◌, map, length, drop, nat_eq, if◌then◌else◌, refl, sym, ap, ap₂, ◌∙◌, append_assoc, append-nil}
use Rattle.std.proofs.lemmas.Bool.{eqb-true, eq-eqb, cond-true, cond-false}
use Rattle.std.proofs.lemmas.List.{map-append}
use Rattle.std.proofs.Math.Seq.{drop-append_seam}
use Rattle.io_traits.specs.Pieces.{Piece, Came, End, Nothing}
use Rattle.byte_lines.specs.Split.{split_of}
use Rattle.byte_lines.specs.Lines.{texts_of, whole_lines}
use Rattle.byte_lines.proofs.Splitting.{split_of-settled}
use Rattle.in_lines.specs.Polls.{Poll, Received, is_ended, joined, lines_by, lines_through, made_whole, received, received_after, received_at, rest_through}
use Rattle.in_lines.specs.Sources.{Look, of_source, from_source, received_beside, interleaved_lines_from, line_from, is_source_ended, left_of, made_by, left_by, left_after, made_from, lefts_after, GoOn}
use Rattle.in_lines.proofs.Receiving.{is_ended-append, lines_through-more, one_longer, rest_through-more, rest_through-nothing}
use Rattle.in_lines.proofs.Cutting.{lines_through-cut}

-- ---- what has a number

pub of_source-append : {X : Type 0} (n : ℕ) (xs ys : List (ℕ × X)) → of_source n (xs ++ ys) ≡ of_source n xs ++ of_source n ys
of_source-append n [] ys = refl
of_source-append n (x ∷ xs) ys = by (nat_eq x.0 n) (of_source-append n xs ys)
  where
    by : (b : Bool) → of_source n (xs ++ ys) ≡ of_source n xs ++ of_source n ys
        → (if b then x.1 ∷ of_source n (xs ++ ys) else of_source n (xs ++ ys)) ≡ (if b then x.1 ∷ of_source n xs else of_source n xs) ++ of_source n ys
    by true later = ap (λ t. x.1 ∷ t) later
    by false later = later

pub of_source-mine : {X : Type 0} (n : ℕ) (xs : List X) → of_source n (from_source n xs) ≡ xs
of_source-mine n [] = refl
of_source-mine n (x ∷ xs) = cond-true _ _ _ (eq-eqb n n refl) ∙ ap (λ t. x ∷ t) (of_source-mine n xs)

pub of_source-other : {X : Type 0} (n m : ℕ) (xs : List X) → nat_eq m n ≡ false → of_source n (from_source m xs) ≡ []
of_source-other n m [] differ = refl
of_source-other n m (x ∷ xs) differ = cond-false _ _ _ differ ∙ of_source-other n m xs differ

-- ---- each source by itself

-- the lines of a source are those of its own looks, each at the moment of its own poll
each_source_after : (limit n : ℕ) (before looks : List Look) → of_source n (interleaved_lines_from limit before looks) ≡ received_after limit (of_source n before) (of_source n looks)
each_source_after limit n before [] = refl
each_source_after limit n before (look ∷ looks) =
    of_source-append n (from_source look.0 (made_whole limit (of_source look.0 before) look.1)) (interleaved_lines_from limit (before ++ look ∷ []) looks)
    ∙ by (each_source_after limit n (before ++ look ∷ []) looks ∙ ap (λ t. received_after limit t (of_source n looks)) (of_source-append n before (look ∷ []))) (nat_eq look.0 n) refl
  where
    by : of_source n (interleaved_lines_from limit (before ++ look ∷ []) looks) ≡ received_after limit (of_source n before ++ of_source n (look ∷ [])) (of_source n looks)
        → (b : Bool) → nat_eq look.0 n ≡ b
        → of_source n (from_source look.0 (made_whole limit (of_source look.0 before) look.1)) ++ of_source n (interleaved_lines_from limit (before ++ look ∷ []) looks) ≡ received_after limit (of_source n before) (if b then look.1 ∷ of_source n looks else of_source n looks)
    by later true is =
        let same : look.0 ≡ n = eqb-true look.0 n is in
        ap₂ (λ s t. s ++ t) (ap (λ m. of_source n (from_source m (made_whole limit (of_source m before) look.1))) same ∙ of_source-mine n (made_whole limit (of_source n before) look.1))
        (later ∙ ap (λ t. received_after limit (of_source n before ++ t) (of_source n looks)) (cond-true _ _ _ is))
    by later false differ =
        ap₂ (λ s t. s ++ t) (of_source-other n look.0 (made_whole limit (of_source look.0 before) look.1) differ)
        (later ∙ ap (λ t. received_after limit (of_source n before ++ t) (of_source n looks)) (cond-false _ _ _ differ) ∙ ap (λ t. received_after limit t (of_source n looks)) (append-nil (of_source n before)))

pub each_source : (limit n : ℕ) (looks : List Look) → of_source n (received_beside limit looks) ≡ received limit (of_source n looks)
unfolding received_beside received
each_source limit n looks = each_source_after limit n [] looks

-- where there is one source alone, its lines are those of its polls
one_source_after : (limit n : ℕ) (before : List Look) (polls : List Poll) → interleaved_lines_from limit before (from_source n polls) ≡ from_source n (received_after limit (of_source n before) polls)
one_source_after limit n before [] = refl
one_source_after limit n before (poll ∷ polls) =
    let made = made_whole limit (of_source n before) poll in
    ap (λ t. from_source n made ++ t)
    (one_source_after limit n (before ++ (n, poll) ∷ []) polls
    ∙ ap (λ t. from_source n (received_after limit t polls)) (of_source-append n before ((n, poll) ∷ []) ∙ ap (λ t. of_source n before ++ t) (of_source-mine n (poll ∷ []))))
    ∙ sym (map-append (λ r. (n, r)) made (received_after limit (of_source n before ++ poll ∷ []) polls))

pub one_source : (limit n : ℕ) (polls : List Poll) → received_beside limit (from_source n polls) ≡ from_source n (received limit polls)
unfolding received_beside received
one_source limit n polls = one_source_after limit n [] polls

pub received_beside-nil : (limit : ℕ) → received_beside limit [] ≡ []
unfolding received_beside
received_beside-nil limit = refl

-- ---- look by look

interleaved_lines_from-append : (limit : ℕ) (before looks more : List Look) → interleaved_lines_from limit before (looks ++ more) ≡ interleaved_lines_from limit before looks ++ interleaved_lines_from limit (before ++ looks) more
interleaved_lines_from-append limit before [] more = ap (λ t. interleaved_lines_from limit t more) (sym (append-nil before))
interleaved_lines_from-append limit before (look ∷ looks) more =
    let after = before ++ look ∷ [] in
    let first = from_source look.0 (made_whole limit (of_source look.0 before) look.1) in
    ap (λ t. first ++ t) (interleaved_lines_from-append limit after looks more ∙ ap (λ t. interleaved_lines_from limit after looks ++ interleaved_lines_from limit t more) (append_assoc before (look ∷ []) looks))
    ∙ sym (append_assoc first (interleaved_lines_from limit after looks) (interleaved_lines_from limit (before ++ look ∷ looks) more))

-- one more poll of a source that did not end makes the lines whole that its piece makes of what was left
pub made-whole : (limit : ℕ) (polls : List Poll) (poll : Poll) → 0 < limit → is_ended polls ≡ false → made_whole limit polls poll ≡ received_at poll.moment (lines_by limit (rest_through limit polls) poll.piece)
made-whole limit polls poll some still =
    let before = lines_through limit polls in
    ap (λ t. received_at poll.moment (drop (length before) t)) (lines_through-more limit polls poll.moment poll.piece some still)
    ∙ ap (received_at poll.moment) (drop-append_seam before (lines_by limit (rest_through limit polls) poll.piece))

pub received_beside-more : (limit : ℕ) (looks : List Look) (look : Look) → 0 < limit → is_source_ended look.0 looks ≡ false
    → received_beside limit (looks ++ look ∷ []) ≡ received_beside limit looks ++ from_source look.0 (received_at look.1.moment (lines_by limit (rest_through limit (of_source look.0 looks)) look.1.piece))
unfolding received_beside
received_beside-more limit looks look some still =
    interleaved_lines_from-append limit [] looks (look ∷ [])
    ∙ ap (λ t. interleaved_lines_from limit [] looks ++ t) (append-nil (from_source look.0 (made_whole limit (of_source look.0 looks) look.1))
    ∙ ap (from_source look.0) (made-whole limit (of_source look.0 looks) look.1 some still))

-- what is left of a source that did not end
pub left-open : (limit n : ℕ) (looks : List Look) → is_source_ended n looks ≡ false → left_of limit n looks ≡ rest_through limit (of_source n looks)
left-open limit n looks still = cond-false _ _ _ still

pub look_adds : (limit : ℕ) (looks : List Look) (look : Look) → 0 < limit → is_source_ended look.0 looks ≡ false
    → received_beside limit (looks ++ look ∷ []) ≡ received_beside limit looks ++ from_source look.0 (received_at look.1.moment (lines_by limit (left_of limit look.0 looks) look.1.piece))
look_adds limit looks look some still =
    received_beside-more limit looks look some still
    ∙ ap (λ t. received_beside limit looks ++ from_source look.0 (received_at look.1.moment (lines_by limit t look.1.piece))) (sym (left-open limit look.0 looks still))

-- ---- a piece that comes in two

abbrev lines_of : List (ℕ × Received) → List (ℕ × List ℕ)
lines_of rs = map line_from rs

-- each of the sources has the same lines after one list of looks and after another, whatever comes behind
abbrev Same : ℕ → List Look → List Look → Type 0
Same limit one other = (n : ℕ) (behind : List Poll) → lines_through limit (of_source n one ++ behind) ≡ lines_through limit (of_source n other ++ behind)

same_more : (limit : ℕ) (one other more : List Look) → Same limit one other → Same limit (one ++ more) (other ++ more)
same_more limit one other more same n behind =
    let seen = of_source n more in
    ap (λ t. lines_through limit (t ++ behind)) (of_source-append n one more) ∙ ap (lines_through limit) (append_assoc (of_source n one) seen behind) ∙ same n (seen ++ behind)
    ∙ ap (lines_through limit) (sym (append_assoc (of_source n other) seen behind)) ∙ ap (λ t. lines_through limit (t ++ behind)) (sym (of_source-append n other more))

same_behind : (limit : ℕ) (one other looks : List Look) → Same limit one other → interleaved_lines_from limit one looks ≡ interleaved_lines_from limit other looks
same_behind limit one other [] same = refl
same_behind limit one other (look ∷ looks) same =
    let n = look.0 in
    let length_same = ap (lines_through limit) (sym (append-nil (of_source n one))) ∙ same n [] ∙ ap (lines_through limit) (append-nil (of_source n other)) in
    ap₂ (λ s t. s ++ t)
    (ap₂ (λ k t. from_source n (received_at look.1.moment (drop k t))) (ap length length_same) (same n (look.1 ∷ [])))
    (same_behind limit (one ++ look ∷ []) (other ++ look ∷ []) looks (same_more limit one other (look ∷ []) same))

lines_made : (n : ℕ) (moment : ℤ) (lines : List (List ℕ)) → lines_of (from_source n (received_at moment lines)) ≡ from_source n lines
lines_made n moment [] = refl
lines_made n moment (line ∷ lines) = ap (λ t. (n, line) ∷ t) (lines_made n moment lines)

module _ (limit n : ℕ) (before after : List Look) (moment earlier later : ℤ) (bytes more : List ℕ) where
  abbrev first : Poll
  first = record { moment = earlier; piece = Came bytes }

  abbrev second : Poll
  second = record { moment = later; piece = Came more }

  abbrev both : Poll
  both = record { moment = moment; piece = Came (bytes ++ more) }

  abbrev mine : List Poll
  mine = of_source n before

  abbrev all_lines : List Poll → List (List ℕ)
  all_lines polls = lines_through limit (mine ++ polls)

  one_alone : of_source n ((n, first) ∷ []) ≡ first ∷ []
  one_alone = of_source-mine n (first ∷ [])

  after_first : of_source n (before ++ (n, first) ∷ []) ≡ mine ++ first ∷ []
  after_first = of_source-append n before ((n, first) ∷ []) ∙ ap (λ t. mine ++ t) one_alone

  -- the lines of all bytes are the same after both pieces and after the one
  same_after : Same limit ((before ++ (n, first) ∷ []) ++ (n, second) ∷ []) (before ++ (n, both) ∷ [])
  same_after m behind = by (nat_eq n m) refl
    where
      by : (b : Bool) → nat_eq n m ≡ b → lines_through limit (of_source m ((before ++ (n, first) ∷ []) ++ (n, second) ∷ []) ++ behind) ≡ lines_through limit (of_source m (before ++ (n, both) ∷ []) ++ behind)
      by true is =
          ap (λ t. lines_through limit (t ++ behind)) (of_source-append m (before ++ (n, first) ∷ []) ((n, second) ∷ []) ∙ ap₂ (λ s t. s ++ t) (of_source-append m before ((n, first) ∷ []) ∙ ap (λ t. of_source m before ++ t) (cond-true _ _ _ is)) (cond-true _ _ _ is))
          ∙ ap (lines_through limit) (append_assoc (of_source m before ++ first ∷ []) (second ∷ []) behind ∙ append_assoc (of_source m before) (first ∷ []) (second ∷ behind))
          ∙ lines_through-cut limit (of_source m before) behind moment earlier later bytes more
          ∙ ap (lines_through limit) (sym (append_assoc (of_source m before) (both ∷ []) behind))
          ∙ ap (λ t. lines_through limit (t ++ behind)) (sym (of_source-append m before ((n, both) ∷ []) ∙ ap (λ t. of_source m before ++ t) (cond-true _ _ _ is)))
      by false differ =
          ap (λ t. lines_through limit (t ++ behind)) (of_source-append m (before ++ (n, first) ∷ []) ((n, second) ∷ []) ∙ ap₂ (λ s t. s ++ t) (of_source-append m before ((n, first) ∷ []) ∙ ap (λ t. of_source m before ++ t) (cond-false _ _ _ differ)) (cond-false _ _ _ differ)
          ∙ append-nil (of_source m before ++ []))
          ∙ ap (λ t. lines_through limit (t ++ behind)) (sym (of_source-append m before ((n, both) ∷ []) ∙ ap (λ t. of_source m before ++ t) (cond-false _ _ _ differ)))

  -- what the two pieces make whole is what the one does
  made_by_two : 0 < limit
      → lines_of (from_source n (made_whole limit mine first)) ++ lines_of (from_source n (made_whole limit (of_source n (before ++ (n, first) ∷ [])) second))
      ≡ lines_of (from_source n (made_whole limit mine both))
  made_by_two some =
      let l0 = lines_through limit mine in
      let l1 = all_lines (first ∷ []) in
      let x = one_longer limit mine first some in
      let y = one_longer limit (mine ++ first ∷ []) second some in
      let cut = ap (lines_through limit) (append_assoc mine (first ∷ []) (second ∷ [])) ∙ lines_through-cut limit mine [] moment earlier later bytes more in
      ap₂ (λ s t. s ++ t)
      (lines_made n earlier (drop (length l0) l1) ∙ ap (from_source n) (ap (drop (length l0)) x.1 ∙ drop-append_seam l0 x.0))
      (ap (λ t. lines_of (from_source n (made_whole limit t second))) after_first ∙ lines_made n later (drop (length l1) (lines_through limit ((mine ++ first ∷ []) ++ second ∷ [])))
      ∙ ap (from_source n) (ap (drop (length l1)) y.1 ∙ drop-append_seam l1 y.0))
      ∙ sym (map-append (λ t. (n, t)) x.0 y.0)
      ∙ sym (lines_made n moment (drop (length l0) (all_lines (both ∷ [])))
      ∙ ap (λ t. from_source n (drop (length l0) t)) (sym cut ∙ y.1 ∙ ap (λ t. t ++ y.0) x.1 ∙ append_assoc l0 x.0 y.0) ∙ ap (from_source n) (drop-append_seam l0 (x.0 ++ y.0)))

  pub beside-cut : 0 < limit → lines_of (received_beside limit (before ++ (n, first) ∷ (n, second) ∷ after)) ≡ lines_of (received_beside limit (before ++ (n, both) ∷ after))
  unfolding received_beside
  beside-cut some =
      let fronts = interleaved_lines_from limit [] before in
      let one = from_source n (made_whole limit mine first) in
      let two = from_source n (made_whole limit (of_source n (before ++ (n, first) ∷ [])) second) in
      let whole = from_source n (made_whole limit mine both) in
      let rest = interleaved_lines_from limit ((before ++ (n, first) ∷ []) ++ (n, second) ∷ []) after in
      let rest_one = interleaved_lines_from limit (before ++ (n, both) ∷ []) after in
      let rests : rest ≡ rest_one = same_behind limit ((before ++ (n, first) ∷ []) ++ (n, second) ∷ []) (before ++ (n, both) ∷ []) after same_after in
      ap lines_of (interleaved_lines_from-append limit [] before ((n, first) ∷ (n, second) ∷ after))
      ∙ map-append line_from fronts (one ++ (two ++ rest))
      ∙ ap (λ t. lines_of fronts ++ t) (
      map-append line_from one (two ++ rest) ∙ ap (λ t. lines_of one ++ t) (map-append line_from two rest)
      ∙ sym (append_assoc (lines_of one) (lines_of two) (lines_of rest))
      ∙ ap₂ (λ s t. s ++ t) (made_by_two some) (ap lines_of rests)
      ∙ sym (map-append line_from whole rest_one))
      ∙ sym (map-append line_from fronts (whole ++ rest_one))
      ∙ sym (ap lines_of (interleaved_lines_from-append limit [] before ((n, both) ∷ after)))

-- ---- from what is left on

-- what is left has no whole line
settled_lines : (limit : ℕ) (polls : List Poll) → 0 < limit → split_of limit (rest_through limit polls) ≡ record { lines = []; rest = rest_through limit polls }
settled_lines limit polls some = split_of-settled limit (joined polls) some

made_is : (limit : ℕ) (polls : List Poll) (piece : Piece) → 0 < limit → made_by limit (rest_through limit polls) piece ≡ lines_by limit (rest_through limit polls) piece
made_is limit polls (Came bytes) some = append-nil (whole_lines limit (rest_through limit polls ++ bytes))
made_is limit polls End some = ap (λ s. texts_of true s) (settled_lines limit polls some)
made_is limit polls Nothing some = ap (λ s. texts_of false s) (settled_lines limit polls some)

-- what one more poll leaves
left_through : (limit : ℕ) (polls : List Poll) (moment : ℤ) (piece : Piece) → 0 < limit → is_ended polls ≡ false
    → (if is_ended (polls ++ record { moment = moment; piece = piece } ∷ []) then [] else rest_through limit (polls ++ record { moment = moment; piece = piece } ∷ [])) ≡ left_by limit (rest_through limit polls) piece
left_through limit polls moment (Came bytes) some still = cond-false _ _ _ (is_ended-append polls (record { moment = moment; piece = Came bytes } ∷ []) still) ∙ rest_through-more limit polls moment bytes some still
left_through limit polls moment End some still = cond-true _ _ _ (is_ended-append polls (record { moment = moment; piece = End } ∷ []) still)
left_through limit polls moment Nothing some still =
    cond-false _ _ _ (is_ended-append polls (record { moment = moment; piece = Nothing } ∷ []) still) ∙ rest_through-nothing limit polls moment still
    ∙ sym (ap (λ s. s.rest) (settled_lines limit polls some))

pub left_one : (limit : ℕ) (looks : List Look) (look : Look) (n : ℕ) → 0 < limit → is_source_ended look.0 looks ≡ false → left_of limit n (looks ++ look ∷ []) ≡ left_after limit (λ m. left_of limit m looks) look n
left_one limit looks look n some still = by (nat_eq look.0 n) refl
  where
    by : (b : Bool) → nat_eq look.0 n ≡ b → left_of limit n (looks ++ look ∷ []) ≡ (if b then left_by limit (left_of limit n looks) look.1.piece else left_of limit n looks)
    by true is =
        let open_end : is_source_ended n looks ≡ false = ap (λ m. is_source_ended m looks) (sym (eqb-true look.0 n is)) ∙ still in
        ap (λ polls. if is_ended polls then [] else rest_through limit polls) (of_source-append n looks (look ∷ []) ∙ ap (λ t. of_source n looks ++ t) (cond-true _ _ _ is))
        ∙ left_through limit (of_source n looks) look.1.moment look.1.piece some open_end
        ∙ ap (λ r. left_by limit r look.1.piece) (sym (left-open limit n looks open_end))
    by false differ = ap (λ polls. if is_ended polls then [] else rest_through limit polls) (of_source-append n looks (look ∷ []) ∙ ap (λ t. of_source n looks ++ t) (cond-false _ _ _ differ) ∙ append-nil (of_source n looks))

same_fun : {X : Type 0} {f g : ℕ → X} → ((n : ℕ) → f n ≡ g n) → f ≡ g
same_fun h = λ i n. h n i

pub going_on : (limit : ℕ) (looks more : List Look) → 0 < limit → GoOn looks more
    → (received_beside limit (looks ++ more) ≡ received_beside limit looks ++ made_from limit (λ n. left_of limit n looks) more)
    × ((n : ℕ) → left_of limit n (looks ++ more) ≡ lefts_after limit (λ m. left_of limit m looks) more n)
going_on limit looks [] some on = (ap (received_beside limit) (append-nil looks) ∙ sym (append-nil (received_beside limit looks)), λ n. ap (left_of limit n) (append-nil looks))
going_on limit looks (look ∷ more) some on =
    let after = looks ++ look ∷ [] in
    let left = left_of limit look.0 looks in
    let first = from_source look.0 (received_at look.1.moment (made_by limit left look.1.piece)) in
    let later = going_on limit after more some on.1 in
    let same : (λ n. left_of limit n after) ≡ left_after limit (λ m. left_of limit m looks) look = same_fun (λ n. left_one limit looks look n some on.0) in
    let one : received_beside limit after ≡ received_beside limit looks ++ first
    = received_beside-more limit looks look some on.0
    ∙ ap (λ l. received_beside limit looks ++ from_source look.0 (received_at look.1.moment l))
    (sym (ap (λ r. made_by limit r look.1.piece) (left-open limit look.0 looks on.0) ∙ made_is limit (of_source look.0 looks) look.1.piece some)) in (
      ap (received_beside limit) (sym (append_assoc looks (look ∷ []) more)) ∙ later.0
          ∙ ap₂ (λ s t. s ++ t) one (ap (λ f. made_from limit f more) same)
          ∙ append_assoc (received_beside limit looks) first (made_from limit (left_after limit (λ m. left_of limit m looks) look) more),
      λ n. ap (left_of limit n) (sym (append_assoc looks (look ∷ []) more)) ∙ later.1 n ∙ ap (λ f. lefts_after limit f more n) same,
    )
