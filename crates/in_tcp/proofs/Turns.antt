-- Connections that are read one after another.
use Rattle.std.proofs.Common.{◌≡◌, ◌≢◌, ◌<◌, ◌≤◌, ◌+◌, ◌-◌, ℕ, ℤ, Bool, true, false, List, [], ◌∷◌, ◌++◌, length, drop, get_or, nat_eq, if◌then◌else◌, refl, sym, ap, ◌∙◌, subst, arith, append-nil, append_assoc, length-append}
use Rattle.std.specs.List.{AllByRecursion}
use Rattle.std.proofs.lemmas.Bool.{cond-true, cond-false, eqb-false, ne_eqb}
use Rattle.std.proofs.lemmas.Grind.{flat_map-append}
use Rattle.std.specs.List.{remove}
use Rattle.std.proofs.lemmas.List.{drop_more, map-append}
use Rattle.std.proofs.lemmas.List.Edits.{remove-append_right}
use Rattle.std.proofs.Math.Seq.{drop-append_seam}
use Rattle.io_traits.specs.Connections.{KeepsLooks, pieces_from}
use Rattle.io_traits.specs.declared.links.Links.{Ghosts as LinksWords}
use Rattle.io_traits.proofs.Growth.{grows_by, grows_same, grows_then}
use Rattle.in_lines.specs.Sources.{Look, of_source}
use Rattle.in_lines.proofs.Beside.{of_source-append}
use Rattle.in_tcp.specs.Reads.{AllCame, AreRead, Found, FoundIn, IsFoundIn, IsRead, ReadEach, ReadOf, Rising, TookRead, closes, left_open, looks_by, looks_with, numbers, piece_found, told, told_by}

-- ---- numbers that rise

all_at : {X : Type 0} (P : X → Type 0) (xs ys : List X) (y : X) → AllByRecursion P (xs ++ y ∷ ys) → P y
all_at P [] ys y all = all.0
all_at P (x ∷ xs) ys y all = all_at P xs ys y all.1

-- where the numbers rise, the next one is none of those before it
pub not_read : (reads : List ReadOf) (n : ℕ) (rest : List ℕ) → Rising (numbers reads ++ n ∷ rest) → of_source n reads ≡ []
not_read [] n rest rising = refl
not_read (r ∷ reads) n rest rising =
    let less : r.0 < n = all_at (λ m. r.0 < m) (numbers reads) rest n rising.0 in
    cond-false _ _ _ (ne_eqb r.0 n (λ is. omega (arith, less, is))) ∙ not_read reads n rest rising.1

pub came_at : (came : ℕ) (reads : List ReadOf) (n : ℕ) (rest : List ℕ) → AllCame came (numbers reads ++ n ∷ rest) → n < came
came_at came reads n rest all = all_at (λ m. m < came) (numbers reads) rest n all

-- ---- what was not read

none_first : (n : ℕ) (r : ReadOf) (reads : List ReadOf) → of_source n (r ∷ reads) ≡ [] → (r.0 ≢ n) × (of_source n reads ≡ [])
none_first n r reads none = by (nat_eq r.0 n) refl none
  where
    by : (b : Bool) → nat_eq r.0 n ≡ b → (if b then r.1 ∷ of_source n reads else of_source n reads) ≡ [] → (r.0 ≢ n) × (of_source n reads ≡ [])
    by true is none = absurd cc
    by false differ none = (eqb-false r.0 n differ, none)

no_both : {X : Type 0} (xs ys : List X) → xs ++ ys ≡ [] → (xs ≡ []) × (ys ≡ [])
no_both [] ys none = (refl, none)
no_both (x ∷ xs) ys none = absurd cc

none_more : (n : ℕ) (reads : List ReadOf) (r : ReadOf) → of_source n (reads ++ r ∷ []) ≡ [] → (of_source n reads ≡ []) × (r.0 ≢ n)
none_more n reads r none =
    let both = no_both (of_source n reads) (of_source n (r ∷ [])) (sym (of_source-append n reads (r ∷ [])) ∙ none) in
    (both.0, (none_first n r [] both.1).0)

-- ---- one read more

module _ {L : Type 0} (links : LinksWords L) where
  each_later : (old mid new : L) (n : ℕ) (found : Found) (reads : List ReadOf) → IsRead links n mid new found → of_source n reads ≡ [] → AllByRecursion (IsFoundIn links old mid) reads → AllByRecursion (IsFoundIn links old new) reads
  each_later old mid new n found [] read none each = tt
  each_later old mid new n found (r ∷ reads) read none each =
      let other = none_first n r reads none in (
        subst (λ l. FoundIn (links.left old r.0) l (links.faults old r.0) (links.faults new r.0) (links.waits old r.0) (links.waits new r.0) r.1) (sym (read.others.left r.0 other.0))
            (subst (λ f. FoundIn (links.left old r.0) (links.left mid r.0) (links.faults old r.0) f (links.waits old r.0) (links.waits new r.0) r.1) (sym (read.others.faults r.0 other.0))
            (subst (λ w. FoundIn (links.left old r.0) (links.left mid r.0) (links.faults old r.0) (links.faults mid r.0) (links.waits old r.0) w r.1) (sym (read.others.waits r.0 other.0)) each.0)),
        each_later old mid new n found reads read other.1 each.1,
      )

  all_more : (P : ReadOf → Type 0) (reads : List ReadOf) (r : ReadOf) → AllByRecursion P reads → P r → AllByRecursion P (reads ++ r ∷ [])
  all_more P [] r all one = (one, tt)
  all_more P (x ∷ reads) r all one = (all.0, all_more P reads r all.1 one)

  pub are_read_more : (old mid new : L) (n : ℕ) (found : Found) (reads : List ReadOf) → AreRead links old mid reads → IsRead links n mid new found → of_source n reads ≡ [] → AreRead links old new (reads ++ (n, found) ∷ [])
  are_read_more old mid new n found reads before read none = record {
    given = grows_by (sym (flat_map-append (λ r. pieces_from r.0 (told r.1)) reads ((n, found) ∷ []) ∙ ap (λ t. told_by reads ++ t) (append-nil (pieces_from n (told found))))) (grows_then before.given read.given);
    each = all_more (IsFoundIn links old new) reads (n, found) (each_later old mid new n found reads read none before.each)
        (subst (λ l. FoundIn l (links.left new n) (links.faults old n) (links.faults new n) (links.waits old n) (links.waits new n) found) (before.left n none)
        (subst (λ f. FoundIn (links.left mid n) (links.left new n) f (links.faults new n) (links.waits old n) (links.waits new n) found) (before.faults n none)
        (subst (λ w. FoundIn (links.left mid n) (links.left new n) (links.faults mid n) (links.faults new n) w (links.waits new n) found) (before.waits n none) read.found_in)));
    left = λ m none_m. let o = none_more m reads (n, found) none_m in read.others.left m (λ is. o.1 (sym is)) ∙ before.left m o.0;
    faults = λ m none_m. let o = none_more m reads (n, found) none_m in read.others.faults m (λ is. o.1 (sym is)) ∙ before.faults m o.0;
    waits = λ m none_m. let o = none_more m reads (n, found) none_m in read.others.waits m (λ is. o.1 (sym is)) ∙ before.waits m o.0;
  }

  pub none_read : (old : L) → AreRead links old old []
  none_read old = record { given = grows_same (links.given old); each = tt; left = λ n none. refl; faults = λ n none. refl; waits = λ n none. refl }

  abbrev Keeps : L → L → Type 0
  Keeps old new = KeepsLooks links.looks links.came links.coming links.accept_faults links.accept_waits old new

  keeps_then : (old mid new : L) → Keeps old mid → Keeps mid new → Keeps old new
  keeps_then old mid new one other = record {
    looks = other.looks ∙ one.looks;
    came = other.came ∙ one.came;
    coming = other.coming ∙ one.coming;
    faults = other.faults ∙ one.faults;
    waits = other.waits ∙ one.waits;
  }

  -- ---- the loop

  -- connections were read up to a place
  pub record ReadTo (moment : ℤ) (opened open_now : List ℕ) (place : ℕ) (pieces_old pieces_now : List Look) (old now : L) : Type 0 where
    pub so_far : ReadEach links moment opened open_now pieces_old pieces_now old now ⊥
    pub place_is : place ≡ length (left_open so_far.reads)

  pub read_none : (moment : ℤ) (opened : List ℕ) (pieces : List Look) (old : L) → ReadTo moment opened opened 0 pieces pieces old old
  read_none moment opened pieces old = record {
    so_far = record {
      reads = [];
      unread = opened;
      order = refl;
      whole = λ no. absurd no;
      still = refl;
      read = none_read old;
      keeps = record { looks = refl; came = refl; coming = refl; faults = refl; waits = refl };
      looks = sym (append-nil pieces);
    };
    place_is = refl;
  }

  -- the next connection, and those behind it
  pub next_at : (xs ys : List ℕ) (place conn : ℕ) → place ≡ length xs → place < length (xs ++ ys) → conn ≡ get_or (xs ++ ys) place conn → (rest : List ℕ) × (ys ≡ conn ∷ rest)
  next_at xs ys place conn is within at = (
    drop (place + 1) (xs ++ ys),
    sym (drop-append_seam xs ys) ∙ ap (λ p. drop p (xs ++ ys)) (sym is) ∙ drop_more (xs ++ ys) place conn within ∙ ap (λ k. k ∷ drop (place + 1) (xs ++ ys)) (sym at),
  )

  left_open-more : (reads : List ReadOf) (r : ReadOf) → left_open (reads ++ r ∷ []) ≡ left_open reads ++ (if closes (piece_found r.1) then [] else r.0 ∷ [])
  left_open-more [] r = refl
  left_open-more (x ∷ reads) r = by (closes (piece_found x.1)) (left_open-more reads r)
    where
      by : (b : Bool) → left_open (reads ++ r ∷ []) ≡ left_open reads ++ (if closes (piece_found r.1) then [] else r.0 ∷ [])
          → (if b then left_open (reads ++ r ∷ []) else x.0 ∷ left_open (reads ++ r ∷ [])) ≡ (if b then left_open reads else x.0 ∷ left_open reads) ++ (if closes (piece_found r.1) then [] else r.0 ∷ [])
      by true later = later
      by false later = ap (λ t. x.0 ∷ t) later

  module _ (moment : ℤ) (opened open_now : List ℕ) (place : ℕ) (pieces_old pieces_now pieces_new : List Look) (old now new : L) (r : ReadTo moment opened open_now place pieces_old pieces_now old now) (conn : ℕ) (rest : List ℕ) (unread : r.so_far.unread ≡ conn ∷ rest) where
    order_now : opened ≡ numbers r.so_far.reads ++ conn ∷ rest
    order_now = r.so_far.order ∙ ap (λ t. numbers r.so_far.reads ++ t) unread

    pub came_now : AllCame (links.came old) opened → conn < links.came now
    came_now all =
        let here = came_at (links.came old) r.so_far.reads conn rest (subst (AllCame (links.came old)) order_now all) in
        omega (arith, here, r.so_far.keeps.came)

    read_so : (closed : Bool) (open_new : List ℕ) (place_new : ℕ) → Rising opened → (t : TookRead links conn moment pieces_now pieces_new now new closed)
        → open_new ≡ left_open (r.so_far.reads ++ (conn, t.found) ∷ []) ++ rest → place_new ≡ length (left_open (r.so_far.reads ++ (conn, t.found) ∷ [])) → ReadTo moment opened open_new place_new pieces_old pieces_new old new
    read_so closed open_new place_new rising t still at =
        let s = r.so_far in
        let one : ReadOf = (conn, t.found) in
        let none = not_read s.reads conn rest (subst Rising order_now rising) in record {
          so_far = record {
            reads = s.reads ++ one ∷ [];
            unread = rest;
            order = order_now ∙ sym (append_assoc (numbers s.reads) (conn ∷ []) rest) ∙ ap (λ t. t ++ rest) (sym (map-append (λ x. x.0) s.reads (one ∷ [])));
            whole = λ no. absurd no;
            still = still;
            read = are_read_more old now new conn t.found s.reads s.read t.read none;
            keeps = keeps_then old now new s.keeps t.read.looks;
            looks = t.looks ∙ ap (λ l. l ++ looks_with conn moment (piece_found t.found)) s.looks ∙ append_assoc pieces_old (looks_by moment s.reads) (looks_with conn moment (piece_found t.found))
                ∙ ap (λ l. pieces_old ++ l)
                (ap (λ l. looks_by moment s.reads ++ l) (sym (append-nil (looks_with conn moment (piece_found t.found)))) ∙ sym (flat_map-append (λ x. looks_with x.0 moment (piece_found x.1)) s.reads (one ∷ [])));
          };
          place_is = at;
        }

    -- it was closed and left out
    pub read_closed : (closed : Bool) (open_new : List ℕ) → Rising opened → TookRead links conn moment pieces_now pieces_new now new closed → closed ≡ true → open_new ≡ remove open_now place → ReadTo moment opened open_new place pieces_old pieces_new old new
    read_closed closed open_new rising t is out =
        let s = r.so_far in
        let same : left_open (s.reads ++ (conn, t.found) ∷ []) ≡ left_open s.reads = left_open-more s.reads (conn, t.found) ∙ ap (λ l. left_open s.reads ++ l) (cond-true _ _ _ (sym t.closed_is ∙ is)) ∙ append-nil (left_open s.reads) in
        let none : place - length (left_open s.reads) ≡ 0 = omega (arith, r.place_is) in
        read_so closed open_new place rising t
        (out ∙ ap (λ l. remove l place) (s.still ∙ ap (λ u. left_open s.reads ++ u) unread) ∙ remove-append_right (left_open s.reads) (conn ∷ rest) (length (left_open s.reads)) place refl (omega (arith, r.place_is))
        ∙ ap (λ k. left_open s.reads ++ remove (conn ∷ rest) k) none ∙ ap (λ l. l ++ rest) (sym same))
        (r.place_is ∙ ap length (sym same))

    -- it stays open
    pub read_open : (closed : Bool) → Rising opened → TookRead links conn moment pieces_now pieces_new now new closed → closed ≡ false → ReadTo moment opened open_now (place + 1) pieces_old pieces_new old new
    read_open closed rising t is =
        let s = r.so_far in
        let more : left_open (s.reads ++ (conn, t.found) ∷ []) ≡ left_open s.reads ++ conn ∷ [] = left_open-more s.reads (conn, t.found) ∙ ap (λ l. left_open s.reads ++ l) (cond-false _ _ _ (sym t.closed_is ∙ is)) in
        read_so closed open_now (place + 1) rising t
        (s.still ∙ ap (λ u. left_open s.reads ++ u) unread ∙ sym (append_assoc (left_open s.reads) (conn ∷ []) rest) ∙ ap (λ l. l ++ rest) (sym more))
        (omega (arith, r.place_is, ap length more, length-append (left_open s.reads) (conn ∷ [])))

  -- at the end of the loop all were read
  pub read_all : (moment : ℤ) (opened open_now : List ℕ) (place : ℕ) (pieces_old pieces_now : List Look) (old now : L) (all : Type 0) → ReadTo moment opened open_now place pieces_old pieces_now old now → (all → length open_now ≤ place)
      → ReadEach links moment opened open_now pieces_old pieces_now old now all
  read_all moment opened open_now place pieces_old pieces_now old now all r end =
      let s = r.so_far in record {
        reads = s.reads;
        unread = s.unread;
        order = s.order;
        whole = λ yes. no_length s.unread (omega (arith, end yes, r.place_is, ap length s.still, length-append (left_open s.reads) s.unread));
        still = s.still;
        read = s.read;
        keeps = s.keeps;
        looks = s.looks;
      }
    where
      no_length : (xs : List ℕ) → length xs ≤ 0 → xs ≡ []
      no_length [] none = refl
      no_length (x ∷ xs) none = absurd (omega (arith, none))
