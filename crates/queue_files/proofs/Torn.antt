-- What a stop leaves of the pages of a queue.
use Rattle.std.proofs.Common.{◌≡◌, ◌⊎◌, inl, inr, ⊎_elim, ℕ, ◌+◌, ◌<◌, ◌≤◌, ◌^◌, Bool, true, false, List, [], ◌∷◌, ◌++◌, length, take, drop, Option, Some, None, Ok, refl, sym, ◌∙◌, ap, subst, arith, append-nil, append_assoc, length-append, length-take, length-drop, take-append-drop}
use Rattle.std.proofs.Math.Path.{ap₂}
use Rattle.std.proofs.Math.Seq.{take-add, drop-append_seam}
use Rattle.std.proofs.lemmas.Nat.{mod_below}
use Rattle.std.proofs.lemmas.List.{take_all}
use Rattle.io_traits.specs.Reads.{bytes_of}
use Rattle.crc_frame.specs.Slots.{next_turn}
use Rattle.io_traits.specs.Images.{FileImage, at_rest}
use Rattle.io_traits.specs.Chance.{NoChance}
use Rattle.io_traits.specs.Tails.{passes, TailImage, HoldsTail}
use Rattle.io_traits.proofs.TailImages.{holds_tail, at_rest_tail}
use Rattle.io_traits.specs.declared.pages.PageState.{PageState}
use Rattle.queue_page.specs.Elements.{is_element, and_then}
use Rattle.queue_page.specs.Grammar.{AreElements, IsPage}
use Rattle.queue_page.specs.Leaving.{IsOpenPage}
use Rattle.queue_page.specs.Pages.{PageRows, recorded, opened, extended, room_of, run_behind, with_run}
use Rattle.queue_page.specs.Runs.{no_run}
use Rattle.queue_page.proofs.RunReads.{run_empty}
use Rattle.queue_page.specs.declared.row.PageRow.{PageRow}
use Rattle.queue_page.proofs.Spelling.{pages_are_read}
use Rattle.queue_page.proofs.Appending.{says_first}
use Rattle.queue_files.specs.Checkpoints.{told}
use Rattle.queue_files.specs.Kept.{Page, Queue, first_open_of, leading, state_as, state_at, Tells, IsTop, IsSound}
use Rattle.queue_files.specs.Resting.{Records, MayRecord, TailHeld, TopHeld, MayHoldTail}
use Rattle.queue_files.specs.Laws.{TailsStand, MarkedHeadsStand, OpenHeadsStand}
use Rattle.queue_files.proofs.Recording.{named_within, within_bounds, fits_slot, records_told, torn_records}

leading_few : (acknowledged : List Bool) → leading acknowledged ≤ length acknowledged
leading_few [] = omega arith
leading_few (true ∷ rest) = let again = leading_few rest in omega (arith, again)
leading_few (false ∷ rest) = omega arith

pub open_fits : (p : Page) → IsSound p → first_open_of p < 2 ^ 64
open_fits p sound = omega (arith, leading_few p.acknowledged, sound.each, sound.numbers)

pub next_fits : (turn : ℕ) → next_turn turn < 2 ^ 64
next_fits turn = mod_below (turn + 1) (2 ^ 64) (omega arith)

-- ---- pages below the head

-- the slot from before, or the next one
told_as : (p : Page) (slots file : Option (List ℕ)) (f : FileImage) → IsSound p → (held : TailHeld p slots file)
    → MayRecord slots p.turn (state_at p (first_open_of p) p.rows (length held.bytes)) f → (named : ℕ) × Tells named p p.rows (length held.bytes) f.file
told_as p slots file f sound held may =
    let len = length held.bytes in
    let was = state_as held.named p p.from p.rows len in
    let is = state_at p (first_open_of p) p.rows len in
    let fits = fits_slot p (next_turn p.turn) (first_open_of p) len p.rows sound (next_fits p.turn) (open_fits p sound) (omega arith) held.short in
    ⊎_elim
    (λ old. (held.named, inl (records_told f.file p.turn was old (named_within held.named p p.from len p.rows held.low sound (omega arith)))))
    (λ new. (p.number, inr (records_told f.file (next_turn p.turn) is new (within_bounds p (first_open_of p) len p.rows sound (omega arith)))))
    (torn_records slots p.turn was is f held.records fits may)

pub tails_stand : TailsStand
tails_stand p slots file f sound held may =
    let one = told_as p slots file f sound held may in
    record {
      bytes = held.bytes;
      rest = held.rest;
      stands = held.stands;
      is_page = held.is_page;
      named = one.0;
      told = one.1;
    }

-- ---- the head page

-- elements behind elements
pub more_elements : (version number place : ℕ) (rows more : List PageRow) (bytes tail : List ℕ) → AreElements version number place rows bytes
    → AreElements version (number + length rows) (place + length bytes) more tail → AreElements version number place (rows ++ more) (bytes ++ tail)
more_elements version number place [] more bytes tail are behind =
    let none : length bytes ≡ 0 = ap length are in
    subst (λ (b : List ℕ). AreElements version number place more (b ++ tail)) (sym are)
    (subst (λ p. AreElements version number p more tail) (omega (arith, none)) (subst (λ n. AreElements version n (place + length bytes) more tail) (omega arith) behind))
more_elements version number place (row ∷ rows) more bytes tail are behind =
    let front = are.0 in
    let rest = are.1 in
    let long : length bytes ≡ length front + length rest = ap length (sym are.2) ∙ length-append front rest in
    let there : place + length bytes ≡ row.next + length rest = omega (arith, long, are.4.next) in
    let numbers : number + length (row ∷ rows) ≡ number + 1 + length rows = omega arith in (
      front,
      rest ++ tail,
      sym (append_assoc front rest tail) ∙ ap (λ b. b ++ tail) are.2,
      are.3,
      are.4,
      more_elements version (number + 1) row.next rows more rest tail are.5
          (subst (λ p. AreElements version (number + 1 + length rows) p more tail) there (subst (λ n. AreElements version n (place + length bytes) more tail) numbers behind)),
    )

no_chance_at_rest : (file : Option (List ℕ)) → NoChance (passes is_element) (at_rest file)
no_chance_at_rest file = record { each = λ place frame is stands. inl stands }

-- a page opens to its own rows
page_opens : (s : PageState) (version : ℕ) (rows : List PageRow) (front : List ℕ) → IsPage front version s.least rows → s.length ≡ length front → s.count ≡ length rows
    → opened true s front ≡ Ok (record { version = version; rows = rows; length = length front })
page_opens s version rows front is long count =
    let read : recorded s front ≡ Ok (record { version = version; rows = rows; length = s.length }) = ap (recorded s) (sym (append-nil front)) ∙ pages_are_read s version rows front [] is long count in
    let none : drop s.length front ≡ [] = ap (λ n. drop n front) long ∙ ap (λ (b : List ℕ). drop (length front) b) (sym (append-nil front)) ∙ drop-append_seam front [] in
    let page : PageRows = record { version = version; rows = rows; length = s.length } in
    let ran : run_behind s version front ≡ no_run s.length None =
    run_empty (room_of s) version (s.least + s.count) s.length (drop s.length front) (ap length none) in
    ap (λ r. and_then r (λ page. Ok (extended true s front page))) read
    ∙ ap (λ r. Ok (with_run page r)) ran
    ∙ ap₂ (λ (l : List PageRow) (n : ℕ). Ok (record { version = version; rows = l; length = n })) (append-nil rows) long

-- a head page with pending rows opens to its recorded rows and the first of those
module _ (q : Queue) (file : List ℕ) (x recorded_count : ℕ) (front tail : List ℕ) (sound : IsSound q.top) (enough : q.marked ≤ recorded_count) (within : recorded_count ≤ length q.top.rows)
    (is : IsPage front q.top.version q.top.least (take recorded_count q.top.rows)) (behind : AreElements q.top.version (q.top.least + recorded_count) (length front) (drop recorded_count q.top.rows) tail)
    (one : (x ≡ q.top.from) ⊎ (x ≡ first_open_of q.top)) (holds : HoldsTail is_element front tail (at_rest (Some file))) where
  abbrev state : PageState
  state = state_at q.top x (take recorded_count q.top.rows) (length front)

  long : length (take recorded_count q.top.rows) ≡ recorded_count
  long = omega (arith, length-take recorded_count q.top.rows, within)

  is_open : IsOpenPage state q.top.version (take recorded_count q.top.rows) (drop recorded_count q.top.rows) front tail
  is_open = record {
    says = page_opens state q.top.version (take recorded_count q.top.rows) front is refl refl;
    behind = subst (λ n. AreElements q.top.version (q.top.least + n) (length front) (drop recorded_count q.top.rows) tail) (sym long) behind;
  }

  pub is_top : (slots f : Option (List ℕ)) → bytes_of f ≡ file → told slots ≡ Ok state → IsTop q slots f
  is_top slots f same tells =
      let first = says_first state q.top.version (take recorded_count q.top.rows) (drop recorded_count q.top.rows) front tail file holds.stands holds.only is_open in
      record {
        recorded = recorded_count;
        enough = enough;
        len = length front;
        first_open = x;
        since = one;
        told = tells;
        count = recorded_count + first.count;
        not_less = omega arith;
        within = omega (arith, first.few, length-drop recorded_count q.top.rows, within);
        read = first.page;
        opens = ap (opened true state) same ∙ first.says;
        gives = first.rows_are ∙ sym (take-add recorded_count first.count q.top.rows);
      }

module _ (q : Queue) (slots file : Option (List ℕ)) (sound : IsSound q.top) (held : TopHeld q slots file) where
  few : length (take q.marked q.top.rows) ≤ length q.top.rows
  few = omega (arith, length-take q.marked q.top.rows)

  abbrev old_state : PageState
  old_state = state_at q.top q.top.from (take q.marked q.top.rows) (length held.front)

  old_told : (f : Option (List ℕ)) → Records (bytes_of f) q.top.turn old_state → told f ≡ Ok old_state
  old_told f r = records_told f q.top.turn old_state r (within_bounds q.top q.top.from (length held.front) (take q.marked q.top.rows) sound few)

  -- with its recorded front
  old_top : (s f : Option (List ℕ)) → told s ≡ Ok old_state → HoldsTail is_element held.front held.tail (at_rest (Some (bytes_of f))) → IsTop q s f
  old_top s f tells holds = is_top q (bytes_of f) q.top.from q.marked held.front held.tail sound (omega arith) held.marked held.is_page held.behind (inl refl) holds s f refl tells

  -- ---- while rows behind those that were recorded are written

  open_head : (f : FileImage) → MayHoldTail held.front held.tail f → IsTop q slots f.file
  open_head f may =
      let h = holds_tail held.front held.tail is_element f may.image may.no_chance in
      old_top slots f.file (old_told slots held.records) (record { stands = h.stands; only = h.only })

  -- ---- while all rows are recorded

  abbrev pub all : List ℕ
  all = held.front ++ held.tail

  rests : HoldsTail is_element held.front held.tail (at_rest (Some all))
  rests = holds_tail held.front held.tail is_element (at_rest (Some all)) (at_rest_tail held.front held.tail) (no_chance_at_rest (Some all))

  whole : HoldsTail is_element all [] (at_rest (Some all))
  whole = holds_tail all [] is_element (at_rest (Some all)) (subst (λ (b : List ℕ). TailImage all [] (at_rest (Some b))) (append-nil all) (at_rest_tail all [])) (no_chance_at_rest (Some all))

  pub is_whole : IsPage all q.top.version q.top.least q.top.rows
  is_whole = record {
    is_version = held.is_page.is_version;
    elements = held.is_page.elements ++ held.tail;
    begins = ap (λ b. b ++ held.tail) held.is_page.begins;
    are = subst (λ rows. AreElements q.top.version q.top.least 1 rows (held.is_page.elements ++ held.tail)) (take-append-drop q.marked q.top.rows)
        (more_elements q.top.version q.top.least 1 (take q.marked q.top.rows) (drop q.marked q.top.rows) held.is_page.elements held.tail held.is_page.are
        (subst (λ p. AreElements q.top.version (q.top.least + length (take q.marked q.top.rows)) p (drop q.marked q.top.rows) held.tail) place
        (subst (λ n. AreElements q.top.version (q.top.least + n) (length held.front) (drop q.marked q.top.rows) held.tail) count held.behind)));
  }
    where
      count : q.marked ≡ length (take q.marked q.top.rows)
      count = omega (arith, length-take q.marked q.top.rows, held.marked)

      place : length held.front ≡ 1 + length held.is_page.elements
      place = let long : length held.front ≡ length (q.top.version ∷ held.is_page.elements) = ap length held.is_page.begins in omega (arith, long)

  abbrev new_state : PageState
  new_state = state_at q.top (first_open_of q.top) q.top.rows (length all)

  new_top : (s : Option (List ℕ)) → told s ≡ Ok new_state → IsTop q s file
  new_top s tells =
      let n = length q.top.rows in
      let rows : take n q.top.rows ≡ q.top.rows = take_all n q.top.rows (omega arith) in
      let none : drop n q.top.rows ≡ [] = ap (drop n) (sym (append-nil q.top.rows)) ∙ drop-append_seam q.top.rows [] in
      let last : AreElements q.top.version (q.top.least + n) (length all) (drop n q.top.rows) [] = subst (λ l. AreElements q.top.version (q.top.least + n) (length all) l []) (sym none) refl in
      is_top q all (first_open_of q.top) n all [] sound held.marked (omega arith) (subst (IsPage all q.top.version q.top.least) (sym rows) is_whole) last (inr refl) whole s file
      (ap bytes_of held.stands) (tells ∙ ap (λ l. Ok (state_at q.top (first_open_of q.top) l (length all))) (sym rows))

  marked_head : (f : FileImage) → MayRecord slots q.top.turn new_state f → IsTop q f.file file
  marked_head f may =
      let fits = fits_slot q.top (next_turn q.top.turn) (first_open_of q.top) (length all) q.top.rows sound (next_fits q.top.turn) (open_fits q.top sound) (omega arith) held.short in
      ⊎_elim
      (λ old. is_top q all q.top.from q.marked held.front held.tail sound (omega arith) held.marked held.is_page held.behind (inl refl) rests f.file file (ap bytes_of held.stands) (old_told f.file old))
      (λ new. new_top f.file (records_told f.file (next_turn q.top.turn) new_state new (within_bounds q.top (first_open_of q.top) (length all) q.top.rows sound (omega arith))))
      (torn_records slots q.top.turn old_state new_state f held.records fits may)

pub marked_heads_stand : MarkedHeadsStand
marked_heads_stand q slots file f sound held may = marked_head q slots file sound held f may

pub open_heads_stand : OpenHeadsStand
open_heads_stand q slots file f sound held may = open_head q slots file sound held f may
