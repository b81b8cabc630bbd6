-- How what an input holds stands to all that came, from one poll and one line to the next.
use Rattle.std.proofs.Common.{◌≡◌, ◌≢◌, ◌<◌, ◌≤◌, ℕ, ℤ, Bool, true, false, List, [], ◌∷◌, ◌++◌, Ok, Err, nat_eq, if◌then◌else◌, refl, sym, ap, ap₂, ◌∙◌, subst, arith, append-nil, append_assoc}
use Rattle.std.specs.List.{AllByRecursion}
use Rattle.std.proofs.lemmas.Bool.{cond-false, ne_eqb}
use Rattle.io_traits.specs.Pieces.{Piece, Came, End, Nothing}
use Rattle.io_traits.specs.declared.links.Come.TheVariants.{Conn, NotYet, Ended}
use Rattle.in_lines.specs.Polls.{Poll, Received, is_ended}
use Rattle.in_lines.specs.Sources.{GoOn, Look, is_source_ended, left_of, lefts_after, made_from, of_source}
use Rattle.in_lines.proofs.Beside.{going_on, of_source-append, received_beside-nil}
use Rattle.in_lines.proofs.Receiving.{is_ended-append, rest_through-nil}
use Rattle.in_tcp.specs.Asks.{Answered, Asked, Full, IsCounted, NoRoom, came_in}
use Rattle.in_tcp.specs.Held.{lefts_in, lines_in}
use Rattle.in_tcp.specs.Inputs.{Stands, Tcp, lefts_of, lines_of}
use Rattle.in_tcp.specs.Lines.{line_limit}
use Rattle.in_tcp.specs.Reads.{AllCame, ReadOf, Rising, closes, left_open, looks_by, looks_with, numbers, piece_found}

same_fun : {X : Type 0} {f g : ℕ → X} → ((n : ℕ) → f n ≡ g n) → f ≡ g
same_fun h = λ i n. h n i

-- ---- of all items of a list

all_front : {X : Type 0} (P : X → Type 0) (xs ys : List X) → AllByRecursion P (xs ++ ys) → AllByRecursion P xs
all_front P [] ys all = tt
all_front P (x ∷ xs) ys all = (all.0, all_front P xs ys all.1)

all_back : {X : Type 0} (P : X → Type 0) (xs ys : List X) → AllByRecursion P (xs ++ ys) → AllByRecursion P ys
all_back P [] ys all = all
all_back P (x ∷ xs) ys all = all_back P xs ys all.1

all_both : {X : Type 0} (P : X → Type 0) (xs ys : List X) → AllByRecursion P xs → AllByRecursion P ys → AllByRecursion P (xs ++ ys)
all_both P [] ys one other = other
all_both P (x ∷ xs) ys one other = (one.0, all_both P xs ys one.1 other)

all_so : {X : Type 0} (P Q : X → Type 0) (xs : List X) → ((x : X) → P x → Q x) → AllByRecursion P xs → AllByRecursion Q xs
all_so P Q [] f all = tt
all_so P Q (x ∷ xs) f all = (f x all.0, all_so P Q xs f all.1)

all_numbers : (P : ℕ → Type 0) (reads : List ReadOf) → AllByRecursion P (numbers reads) → AllByRecursion (λ r. P r.0) reads
all_numbers P [] all = tt
all_numbers P (r ∷ reads) all = (all.0, all_numbers P reads all.1)

-- ---- numbers that rise

rising_front : (xs ys : List ℕ) → Rising (xs ++ ys) → Rising xs
rising_front [] ys rising = tt
rising_front (x ∷ xs) ys rising = (all_front (λ m. x < m) xs ys rising.0, rising_front xs ys rising.1)

pub rising_pushed : (xs : List ℕ) (n : ℕ) → Rising xs → AllCame n xs → Rising (xs ++ n ∷ [])
rising_pushed [] n rising came = (tt, tt)
rising_pushed (x ∷ xs) n rising came = (all_both (λ m. x < m) xs (n ∷ []) rising.0 (came.0, tt), rising_pushed xs n rising.1 came.1)

rising_without : (x : ℕ) (b : Bool) (xs ys : List ℕ) → AllByRecursion (λ m. x < m) xs → Rising xs → Rising (if b then xs else x ∷ xs)
rising_without x true xs ys above rising = rising
rising_without x false xs ys above rising = (above, rising)

all_left_open : (P : ℕ → Type 0) (reads : List ReadOf) (rest : List ℕ) → AllByRecursion P (numbers reads ++ rest) → AllByRecursion P (left_open reads ++ rest)
all_left_open P [] rest all = all
all_left_open P (r ∷ reads) rest all = by (closes (piece_found r.1)) (all_left_open P reads rest all.1)
  where
    by : (b : Bool) → AllByRecursion P (left_open reads ++ rest) → AllByRecursion P ((if b then left_open reads else r.0 ∷ left_open reads) ++ rest)
    by true later = later
    by false later = (all.0, later)

pub rising_left : (reads : List ReadOf) (rest : List ℕ) → Rising (numbers reads ++ rest) → Rising (left_open reads ++ rest)
rising_left [] rest rising = rising
rising_left (r ∷ reads) rest rising = by (closes (piece_found r.1)) (rising_left reads rest rising.1)
  where
    by : (b : Bool) → Rising (left_open reads ++ rest) → Rising ((if b then left_open reads else r.0 ∷ left_open reads) ++ rest)
    by true later = later
    by false later = (all_left_open (λ m. r.0 < m) reads rest rising.0, later)

pub came_left : (came : ℕ) (reads : List ReadOf) (rest : List ℕ) → AllCame came (numbers reads ++ rest) → AllCame came (left_open reads ++ rest)
came_left came reads rest all = all_left_open (λ m. m < came) reads rest all

-- ---- the connections after a look

come_cases : (asked : Asked) (came now : ℕ) (xs : List ℕ) → IsCounted asked came now → (came ≤ now) × (Rising xs → AllCame came xs → Rising (xs ++ came_in asked)) × (AllCame came xs → AllCame now (xs ++ came_in asked))
come_cases Full came now xs counted = (omega (arith, counted), λ rising all. subst Rising (sym (append-nil xs)) rising, λ all. subst (AllCame now) (sym (append-nil xs)) (subst (λ k. AllCame k xs) (sym counted) all))
come_cases NoRoom came now xs counted = (omega (arith, counted), λ rising all. subst Rising (sym (append-nil xs)) rising, λ all. subst (AllCame now) (sym (append-nil xs)) (subst (λ k. AllCame k xs) (sym counted) all))
come_cases (Answered (Ok (Conn n))) came now xs counted = (
  omega (arith, counted.1),
  λ rising all. rising_pushed xs n rising (subst (λ k. AllCame k xs) (sym counted.0) all),
  λ all. all_both (λ m. m < now) xs (n ∷ []) (all_so (λ m. m < came) (λ m. m < now) xs (λ m less. omega (arith, less, counted.1)) all) (omega (arith, counted.0, counted.1), tt),
)
come_cases (Answered (Ok NotYet)) came now xs counted = (omega (arith, counted), λ rising all. subst Rising (sym (append-nil xs)) rising, λ all. subst (AllCame now) (sym (append-nil xs)) (subst (λ k. AllCame k xs) (sym counted) all))
come_cases (Answered (Ok Ended)) came now xs counted = (omega (arith, counted), λ rising all. subst Rising (sym (append-nil xs)) rising, λ all. subst (AllCame now) (sym (append-nil xs)) (subst (λ k. AllCame k xs) (sym counted) all))
come_cases (Answered (Err e)) came now xs counted = (omega (arith, counted), λ rising all. subst Rising (sym (append-nil xs)) rising, λ all. subst (AllCame now) (sym (append-nil xs)) (subst (λ k. AllCame k xs) (sym counted) all))

pub later : (asked : Asked) (came now : ℕ) → IsCounted asked came now → came ≤ now
later asked came now counted = (come_cases asked came now [] counted).0

pub rising_come : (asked : Asked) (came now : ℕ) (xs : List ℕ) → IsCounted asked came now → Rising xs → AllCame came xs → Rising (xs ++ came_in asked)
rising_come asked came now xs counted rising all = (come_cases asked came now xs counted).1 rising all

pub came_come : (asked : Asked) (came now : ℕ) (xs : List ℕ) → IsCounted asked came now → AllCame came xs → AllCame now (xs ++ came_in asked)
came_come asked came now xs counted all = (come_cases asked came now xs counted).2 all

-- a connection that came now is none of those before
come_open : (asked : Asked) (came now : ℕ) (looks : List Look) → IsCounted asked came now → ((n : ℕ) → came ≤ n → of_source n looks ≡ []) → AllByRecursion (λ n. is_source_ended n looks ≡ false) (came_in asked)
come_open Full came now looks counted none = tt
come_open NoRoom came now looks counted none = tt
come_open (Answered (Ok (Conn n))) came now looks counted none = (ap is_ended (none n (omega (arith, counted.0))), tt)
come_open (Answered (Ok NotYet)) came now looks counted none = tt
come_open (Answered (Ok Ended)) came now looks counted none = tt
come_open (Answered (Err e)) came now looks counted none = tt

-- ---- the looks of reads

other_look : (n m : ℕ) (moment : ℤ) (piece : Piece) → m ≢ n → of_source n (looks_with m moment piece) ≡ []
other_look n m moment (Came bytes) differ = cond-false _ _ _ (ne_eqb m n differ)
other_look n m moment End differ = cond-false _ _ _ (ne_eqb m n differ)
other_look n m moment Nothing differ = refl

-- of a connection of which all reads are others there is no look
no_looks : (n : ℕ) (moment : ℤ) (reads : List ReadOf) → AllByRecursion (λ r. r.0 ≢ n) reads → of_source n (looks_by moment reads) ≡ []
no_looks n moment [] others = refl
no_looks n moment (r ∷ reads) others =
    of_source-append n (looks_with r.0 moment (piece_found r.1)) (looks_by moment reads)
    ∙ ap₂ (λ s t. s ++ t) (other_look n r.0 moment (piece_found r.1) others.0) (no_looks n moment reads others.1)

ended_same : (n : ℕ) (looks more : List Look) → of_source n more ≡ [] → is_source_ended n (looks ++ more) ≡ is_source_ended n looks
ended_same n looks more none = ap is_ended (of_source-append n looks more ∙ ap (λ t. of_source n looks ++ t) none ∙ append-nil (of_source n looks))

-- those read later have other numbers
above_first : (n : ℕ) (reads : List ReadOf) → AllByRecursion (λ m. n < m) (numbers reads) → AllByRecursion (λ r. r.0 ≢ n) reads
above_first n [] above = tt
above_first n (r ∷ reads) above = ((λ is. omega (arith, above.0, is)), above_first n reads above.1)

module _ (moment : ℤ) where
  abbrev Opened : List Look → List ReadOf → Type 0
  Opened looks reads = AllByRecursion (λ r. is_source_ended r.0 looks ≡ false) reads

  -- with one look more at another connection those of the others did not end either
  opened_after : (looks : List Look) (n : ℕ) (piece : Piece) (reads : List ReadOf) → AllByRecursion (λ m. n < m) (numbers reads) → Opened looks reads → Opened (looks ++ looks_with n moment piece) reads
  opened_after looks n piece [] above all = tt
  opened_after looks n piece (r ∷ reads) above all = (
    ended_same r.0 looks (looks_with n moment piece) (other_look r.0 n moment piece (λ is. omega (arith, above.0, is))) ∙ all.0,
    opened_after looks n piece reads above.1 all.1,
  )

  go_on : (looks : List Look) (reads : List ReadOf) → Rising (numbers reads) → Opened looks reads → GoOn looks (looks_by moment reads)
  go_on looks [] rising all = tt
  go_on looks (r ∷ reads) rising all = by (piece_found r.1) (go_on (looks ++ looks_with r.0 moment (piece_found r.1)) reads rising.1 (opened_after looks r.0 (piece_found r.1) reads rising.0 all.1))
    where
      by : (piece : Piece) → GoOn (looks ++ looks_with r.0 moment piece) (looks_by moment reads) → GoOn looks (looks_with r.0 moment piece ++ looks_by moment reads)
      by (Came bytes) later = (all.0, later)
      by End later = (all.0, later)
      by Nothing later = subst (λ l. GoOn l (looks_by moment reads)) (append-nil looks) later

  one_more : (looks : List Look) (n : ℕ) (piece : Piece) → closes piece ≡ false → is_source_ended n looks ≡ false → is_source_ended n (looks ++ looks_with n moment piece) ≡ false
  one_more looks n (Came bytes) still not_ended =
      let one : Poll = record { moment = moment; piece = Came bytes } in
      ap is_ended (of_source-append n looks ((n, one) ∷ [])) ∙ is_ended-append (of_source n looks) (of_source n ((n, one) ∷ [])) not_ended ∙ by (nat_eq n n)
    where
      by : (b : Bool) → is_ended (if b then record { moment = moment; piece = Came bytes } ∷ [] else []) ≡ false
      by true = refl
      by false = refl
  one_more looks n End still not_ended = absurd cc
  one_more looks n Nothing still not_ended = ap (is_source_ended n) (append-nil looks) ∙ not_ended

  -- the connections that reads left open did not end
  still_open : (looks : List Look) (reads : List ReadOf) → Rising (numbers reads) → Opened looks reads → AllByRecursion (λ n. is_source_ended n (looks ++ looks_by moment reads) ≡ false) (left_open reads)
  still_open looks [] rising all = tt
  still_open looks (r ∷ reads) rising all =
      let one = looks_with r.0 moment (piece_found r.1) in
      let rest = looks_by moment reads in
      by (closes (piece_found r.1)) refl
      (subst (λ l. AllByRecursion (λ n. is_source_ended n l ≡ false) (left_open reads)) (append_assoc looks one rest)
      (still_open (looks ++ one) reads rising.1 (opened_after looks r.0 (piece_found r.1) reads rising.0 all.1)))
    where
      by : (b : Bool) → closes (piece_found r.1) ≡ b → AllByRecursion (λ n. is_source_ended n (looks ++ looks_by moment (r ∷ reads)) ≡ false) (left_open reads)
          → AllByRecursion (λ n. is_source_ended n (looks ++ looks_by moment (r ∷ reads)) ≡ false) (if b then left_open reads else r.0 ∷ left_open reads)
      by true closed later = later
      by false still later = (
        ap (is_source_ended r.0) (sym (append_assoc looks (looks_with r.0 moment (piece_found r.1)) (looks_by moment reads)))
            ∙ ended_same r.0 (looks ++ looks_with r.0 moment (piece_found r.1)) (looks_by moment reads) (no_looks r.0 moment reads (above_first r.0 reads rising.0))
            ∙ one_more looks r.0 (piece_found r.1) still all.0,
        later,
      )

  -- those that were not read did not end
  unread_open : (looks : List Look) (reads : List ReadOf) (rest : List ℕ) → AllByRecursion (λ m. of_source m (looks_by moment reads) ≡ []) rest → AllByRecursion (λ n. is_source_ended n looks ≡ false) rest → AllByRecursion (λ n. is_source_ended n (looks ++ looks_by moment reads) ≡ false) rest
  unread_open looks reads [] none all = tt
  unread_open looks reads (n ∷ rest) none all = (ended_same n looks (looks_by moment reads) none.0 ∙ all.0, unread_open looks reads rest none.1 all.1)

all_zip : {X : Type 0} (P Q R : X → Type 0) (xs : List X) → ((x : X) → P x → Q x → R x) → AllByRecursion P xs → AllByRecursion Q xs → AllByRecursion R xs
all_zip P Q R [] f one other = tt
all_zip P Q R (x ∷ xs) f one other = (f x one.0 other.0, all_zip P Q R xs f one.1 other.1)

-- numbers behind those of the reads are others
others_all : (reads : List ReadOf) (rest : List ℕ) → Rising (numbers reads ++ rest) → AllByRecursion (λ n. AllByRecursion (λ r. r.0 ≢ n) reads) rest
others_all [] [] rising = tt
others_all [] (n ∷ rest) rising = (tt, others_all [] rest rising.1)
others_all (r ∷ reads) rest rising =
    all_zip (λ n. r.0 < n) (λ n. AllByRecursion (λ x. x.0 ≢ n) reads) (λ n. AllByRecursion (λ x. x.0 ≢ n) (r ∷ reads)) rest (λ n less others. ((λ is. omega (arith, less, is)), others))
    (all_back (λ m. r.0 < m) (numbers reads) rest rising.0) (others_all reads rest rising.1)

below_all : (came n : ℕ) (reads : List ReadOf) → came ≤ n → AllByRecursion (λ r. r.0 < came) reads → AllByRecursion (λ r. r.0 ≢ n) reads
below_all came n reads le below = all_so (λ r. r.0 < came) (λ r. r.0 ≢ n) reads (λ r less is. omega (arith, less, is, le)) below

-- ---- a poll

module _ (moment : ℤ) (old new : Tcp) (asked : Asked) (reads : List ReadOf) (unread : List ℕ) (came now : ℕ) (counted : IsCounted asked came now) (came_all : AllCame came old.connections) (rising : Rising old.connections) (order : old.connections ++ came_in asked ≡ numbers reads ++ unread) where
  rising_now : Rising (numbers reads ++ unread)
  rising_now = subst Rising order (rising_come asked came now old.connections counted rising came_all)

  came_now : AllCame now (numbers reads ++ unread)
  came_now = subst (AllCame now) order (came_come asked came now old.connections counted came_all)

  pub rising_new : new.connections ≡ left_open reads ++ unread → Rising new.connections
  rising_new is = subst Rising (sym is) (rising_left reads unread rising_now)

  pub came_new : new.connections ≡ left_open reads ++ unread → AllCame now new.connections
  came_new is = subst (AllCame now) (sym is) (came_left now reads unread came_now)

  pub stands_on : new.connections ≡ left_open reads ++ unread → lines_of new ≡ lines_of old ++ made_from line_limit (lefts_of old) (looks_by moment reads) → ((n : ℕ) → lefts_of new n ≡ lefts_after line_limit (lefts_of old) (looks_by moment reads) n)
      → (looks : List Look) (given : List (ℕ × Received)) → Stands looks given came old → Stands (looks ++ looks_by moment reads) given now new
  stands_on is lines lefts looks given stands =
      let more = looks_by moment reads in
      let all = subst (AllByRecursion (λ n. is_source_ended n looks ≡ false)) order (all_both (λ n. is_source_ended n looks ≡ false) old.connections (came_in asked) stands.not_ended (come_open asked came now looks counted stands.none_later)) in
      let opened = all_numbers (λ n. is_source_ended n looks ≡ false) reads (all_front (λ n. is_source_ended n looks ≡ false) (numbers reads) unread all) in
      let front = rising_front (numbers reads) unread rising_now in
      let on = going_on line_limit looks more (omega arith) (go_on moment looks reads front opened) in
      let same : (λ n. left_of line_limit n looks) ≡ lefts_of old = same_fun stands.lefts in
      record {
        lines = on.0 ∙ ap₂ (λ s f. s ++ made_from line_limit f more) stands.lines same ∙ append_assoc given (lines_of old) (made_from line_limit (lefts_of old) more) ∙ ap (λ l. given ++ l) (sym lines);
        lefts = λ n. on.1 n ∙ ap (λ f. lefts_after line_limit f more n) same ∙ sym (lefts n);
        not_ended = subst (AllByRecursion (λ n. is_source_ended n (looks ++ more) ≡ false)) (sym is)
            (all_both (λ n. is_source_ended n (looks ++ more) ≡ false) (left_open reads) unread (still_open moment looks reads front opened)
            (unread_open moment looks reads unread (all_so (λ n. AllByRecursion (λ r. r.0 ≢ n) reads) (λ n. of_source n more ≡ []) unread (λ n others. no_looks n moment reads others) (others_all reads unread rising_now))
            (all_back (λ n. is_source_ended n looks ≡ false) (numbers reads) unread all)));
        none_later = λ n le.
            of_source-append n looks more
            ∙ ap₂ (λ s t. s ++ t) (stands.none_later n (omega (arith, le, later asked came now counted)))
            (no_looks n moment reads (below_all now n reads le (all_numbers (λ m. m < now) reads (all_front (λ m. m < now) (numbers reads) unread came_now))));
      }

-- ---- a line, and the beginning

pub stands_given : (old new : Tcp) (given : List (ℕ × Received)) → lines_of old ≡ given ++ lines_of new → ((n : ℕ) → lefts_of new n ≡ lefts_of old n) → new.connections ≡ old.connections
    → (looks : List Look) (before : List (ℕ × Received)) (came : ℕ) → Stands looks before came old → Stands looks (before ++ given) came new
stands_given old new given lines lefts same looks before came stands = record {
  lines = stands.lines ∙ ap (λ l. before ++ l) lines ∙ sym (append_assoc before given (lines_of new));
  lefts = λ n. stands.lefts n ∙ sym (lefts n);
  not_ended = subst (AllByRecursion (λ n. is_source_ended n looks ≡ false)) (sym same) stands.not_ended;
  none_later = stands.none_later;
}

pub stands_first : (came : ℕ) (t : Tcp) → t.connections ≡ [] → t.parts ≡ [] → t.looks ≡ [] → Stands [] [] came t
stands_first came t connections parts looks = record {
  lines = received_beside-nil line_limit ∙ sym (ap₂ (λ p l. lines_in p l) parts looks);
  lefts = λ n. rest_through-nil line_limit (omega arith) ∙ sym (ap₂ (λ p l. lefts_in p l n) parts looks);
  not_ended = subst (AllByRecursion (λ n. is_source_ended n [] ≡ false)) (sym connections) tt;
  none_later = λ n le. refl;
}
