-- The marks of a queue, written whole.
use Rattle.std.proofs.Common.{◌≡◌, ◌⊎◌, inl, inr, ⊎_elim, ℕ, suc, ◌+◌, ◌-◌, ◌<◌, ◌≤◌, ◌^◌, ◌==◌, not, Bool, true, false, List, [], ◌∷◌, ◌++◌, length, take, drop, Option, Some, if◌then◌else◌, refl, sym, ◌∙◌, ap, subst, arith, append-nil}
use Rattle.std.proofs.Math.Seq.{drop-append_seam}
use Rattle.std.proofs.lemmas.Bool.{cond-true, cond-false, eqb-true}
use Rattle.std.proofs.lemmas.List.{take_all}
use Rattle.io_traits.specs.Folders.{Content}
use Rattle.io_traits.specs.Reads.{bytes_of}
use Rattle.crc_frame.specs.Slots.{place_of, slot_of, next_turn, with_slot, NewestIs, IsSlotOf}
use Rattle.crc_frame.proofs.TornSlots.{next_slot_is_read}
use Rattle.io_traits.specs.declared.pages.PageState.{PageState}
use Rattle.slot_files.specs.Checkpoints.{FitsSlot, slot_spelling}
use Rattle.slot_files.proofs.CheckpointBytes.{spelling_is_slot}
use Rattle.queue_page.specs.Grammar.{AreElements, IsPage}
use Rattle.queue_files.specs.Folders.{Role, head, page, checkpoint, Folder, Names, AreApart}
use Rattle.queue_files.specs.Kept.{Page, Queue, first_open_of, state_as, state_at, NoTail, IsSound, Rising, IsQueue}
use Rattle.queue_files.specs.Resting.{Records, TailHeld, TailsHeld, TopHeld, Held}
use Rattle.queue_files.specs.Steps.{marked, marked_pages, marked_page, recorded_page}
use Rattle.queue_files.proofs.Recording.{fits_slot, spelled_records}
use Rattle.queue_files.proofs.Torn.{is_whole, open_fits, next_fits}
use Rattle.queue_files.specs.Writes.{Write, write_of, due_of, writes_of, IsBeside, Wrote}
use Rattle.queue_files.specs.Marks.{read_in, IsMarkOf, AreMarksOf, MarksRecord}
use Rattle.queue_files.specs.declared.marking.Mark.{Mark}
use Rattle.queue_files.proofs.WriteLemmas.{beside_still}
use Rattle.queue_files.proofs.TornMarks.{due_is, not_due, number_of, differs, all_beside, page_other, later_role, above_role}

not_false : (b : Bool) → not b ≡ false → b ≡ true
not_false true is = refl
not_false false is = absurd cc

not_true : (b : Bool) → not b ≡ true → b ≡ false
not_true true is = absurd cc
not_true false is = refl

-- a slot that was written
pub recorded : (file : List ℕ) (turn : ℕ) (s t : PageState) → Records file turn s → FitsSlot (next_turn turn) t → Records (with_slot (place_of 48 (next_turn turn)) (slot_spelling (next_turn turn) t) file) (next_turn turn) t
recorded file turn s t r fits =
    let new = slot_spelling (next_turn turn) t in
    let slot : IsSlotOf 48 (next_turn turn) new = spelling_is_slot (next_turn turn) t fits.turn_fits in
    spelled_records (with_slot (place_of 48 (next_turn turn)) new file) (next_turn turn) t fits
    (subst (λ n. NewestIs 48 (with_slot (place_of 48 (next_turn n)) new file) (slot_of 48 new) new) r.turn_is
    (next_slot_is_read 48 file r.bytes new r.slot (omega arith) (omega (arith, r.turn_is, r.fits.turn_fits)) r.newest (subst (λ n. IsSlotOf 48 (next_turn n) new) (sym r.turn_is) slot)))

-- ---- the marked queue is one

marked_sound : (p : Page) (turn : ℕ) → turn < 2 ^ 64 → IsSound p → IsSound (record p { from = first_open_of p; turn = turn })
marked_sound p turn fits sound = record {
  number = sound.number;
  turn = fits;
  least = sound.least;
  numbers = sound.numbers;
  count = sound.count;
  numbered = sound.numbered;
  each = sound.each;
  from_fits = open_fits p sound;
  from = inl (omega arith);
}

marked_turn : (p : Page) → IsSound p → (if first_open_of p == p.from then p.turn else next_turn p.turn) < 2 ^ 64
marked_turn p sound = at (first_open_of p == p.from)
  where
    at : (b : Bool) → (if b then p.turn else next_turn p.turn) < 2 ^ 64
    at true = sound.turn
    at false = next_fits p.turn

pub marked_rising : (number end : ℕ) (tails : List Page) (top : Page) → Rising number end tails top → Rising number end (marked_pages tails) (recorded_page top)
marked_rising number end [] top rising = (rising.0, rising.1, marked_sound top (next_turn top.turn) (next_fits top.turn) rising.2)
marked_rising number end (p ∷ tails) top rising =
    (rising.0, rising.1, rising.2, marked_sound p _ (marked_turn p rising.3) rising.3, marked_rising (suc p.number) (p.least + length p.rows) tails top rising.4)

marked_none : (n : ℕ) (tails : List Page) → NoTail n (marked_pages tails) → NoTail n tails
marked_none n [] none = tt
marked_none n (p ∷ tails) none = (none.0, marked_none n tails none.1)

module _ (names : Names) (apart : AreApart names) (top : Page) (len : ℕ) (folder : Folder) (new : Content) where
  -- a checkpoint with the slot of a page
  abbrev with_mark : Role → Page → ℕ → Option (List ℕ)
  with_mark role p bytes = Some (with_slot (place_of 48 (next_turn p.turn)) (slot_spelling (next_turn p.turn) (state_at p (first_open_of p) p.rows bytes)) (bytes_of (folder role)))

  written : (role : Role) (p : Page) (bytes : ℕ) (m : Mark) (old mid : Content) → IsMarkOf names role p bytes m → old (names role) ≡ folder role
      → mid m.file ≡ Some (with_slot (place_of 48 m.turn) (slot_spelling m.turn m.state) (bytes_of (old m.file))) → mid (names role) ≡ with_mark role p bytes
  written role p bytes m old mid is was wrote =
      subst (λ n. mid n ≡ Some (with_slot (place_of 48 m.turn) (slot_spelling m.turn m.state) (bytes_of (old n)))) is.file wrote
      ∙ ap (λ (o : Option (List ℕ)). Some (with_slot (place_of 48 m.turn) (slot_spelling m.turn m.state) (bytes_of o))) was
      ∙ ap (λ (t : ℕ). Some (with_slot (place_of 48 t) (slot_spelling t m.state) (bytes_of (folder role)))) is.turn
      ∙ ap (λ (s : PageState). Some (with_slot (place_of 48 (next_turn p.turn)) (slot_spelling (next_turn p.turn) s) (bytes_of (folder role)))) is.state

  -- what became of the checkpoint of a page below the head
  abbrev Became : Page → ℕ → Type 0
  Became p bytes =
      (((first_open_of p == p.from) ≡ true) × (new (names (checkpoint p.number)) ≡ folder (checkpoint p.number)))
      ⊎ (((first_open_of p == p.from) ≡ false) × (new (names (checkpoint p.number)) ≡ with_mark (checkpoint p.number) p bytes))

  abbrev AllBecame : (tails : List Page) → TailsHeld tails folder → Type 0
  AllBecame [] held = new (names head) ≡ with_mark head top len
  AllBecame (p ∷ tails) held = Became p (length held.0.bytes) × AllBecame tails held.1

  abbrev Waits : ℕ → Content → Type 0
  Waits number old = (old (names head) ≡ folder head) × ((n : ℕ) → number ≤ n → old (names (checkpoint n)) ≡ folder (checkpoint n))

  head_became : (marks : List Mark) (old : Content) → AreMarksOf names top len [] folder tt marks → old (names head) ≡ folder head → Wrote (writes_of marks) old new → new (names head) ≡ with_mark head top len
  head_became marks old are was wrote =
      let m = are.0 in
      let writes : writes_of marks ≡ write_of m ∷ [] = ap writes_of are.1 ∙ append-nil (due_of m) ∙ due_is m are.3 in
      let w : Wrote (write_of m ∷ []) old new = subst (λ ws. Wrote ws old new) writes wrote in
      w.3 (names head) ∙ written head top len m old w.0 are.2 was w.1

  one_became : (number end : ℕ) (p : Page) (tails : List Page) (held : TailsHeld (p ∷ tails) folder) (marks : List Mark) (old : Content) → Rising number end (p ∷ tails) top
      → (are : AreMarksOf names top len (p ∷ tails) folder held marks) → Waits number old → Wrote (writes_of marks) old new
      → ((mid : Content) → Waits (suc p.number) mid → Wrote (writes_of are.1) mid new → AllBecame tails held.1) → AllBecame (p ∷ tails) held
  one_became number end p tails held marks old rising are waits wrote again = at are.0.due refl
    where
      whole : Wrote (due_of are.0 ++ writes_of are.1) old new
      whole = subst (λ ms. Wrote (writes_of ms) old new) are.2 wrote

      beside : IsBeside (names (checkpoint p.number)) (writes_of are.1)
      beside = all_beside names apart top len folder (checkpoint p.number) tails held.1 are.1 (later_role names apart top len folder p.number (suc p.number) (p.least + length p.rows) tails (omega arith) rising.4) are.5

      at : (b : Bool) → are.0.due ≡ b → AllBecame (p ∷ tails) held
      at false none =
          let w : Wrote (writes_of are.1) old new = subst (λ (ws : List Write). Wrote (ws ++ writes_of are.1) old new) (not_due are.0 none) whole in
          let same : (first_open_of p == p.from) ≡ true = not_false (first_open_of p == p.from) (sym are.4 ∙ none) in
          (inl (same, beside_still (writes_of are.1) (names (checkpoint p.number)) old new beside w ∙ waits.1 p.number rising.0), again old (waits.0, λ n from. waits.1 n (omega (arith, from, rising.0))) w)
      at true due =
          let w : Wrote (write_of are.0 ∷ writes_of are.1) old new = subst (λ (ws : List Write). Wrote (ws ++ writes_of are.1) old new) (due_is are.0 due) whole in
          let other : (first_open_of p == p.from) ≡ false = not_true (first_open_of p == p.from) (sym are.4 ∙ due) in
          let mid = w.0 in
          let stays : (role : Role) → (role ≡ checkpoint p.number → ⊥) → mid (names role) ≡ old (names role) = λ role differ. w.2 (names role) (differs names apart top len folder role (checkpoint p.number) are.0.file are.3.file differ) in (
            inr (other, beside_still (writes_of are.1) (names (checkpoint p.number)) mid new beside w.3 ∙ written (checkpoint p.number) p (length held.0.bytes) are.0 old mid are.3 (waits.1 p.number rising.0) w.1),
            again mid (stays head (λ same. absurd cc) ∙ waits.0, λ n from. stays (checkpoint n) (λ same. absurd (omega (arith, from, ap number_of same))) ∙ waits.1 n (omega (arith, from, rising.0))) w.3,
          )

  all_became : (number end : ℕ) (tails : List Page) (held : TailsHeld tails folder) (marks : List Mark) (old : Content) → Rising number end tails top → AreMarksOf names top len tails folder held marks
      → Waits number old → Wrote (writes_of marks) old new → AllBecame tails held
  all_became number end [] held marks old rising are waits wrote = head_became marks old are waits.0 wrote
  all_became number end (p ∷ tails) held marks old rising are waits wrote =
      one_became number end p tails held marks old rising are waits wrote
      (λ mid waits wrote. all_became (suc p.number) (p.least + length p.rows) tails held.1 are.1 mid rising.4 are.5 waits wrote)

  -- ---- and so it is recorded

  tail_recorded : (p : Page) → IsSound p → (held : TailHeld p (folder (checkpoint p.number)) (folder (page p.number))) → Became p (length held.bytes) → new (names (page p.number)) ≡ folder (page p.number)
      → TailHeld (marked_page p) (new (names (checkpoint p.number))) (new (names (page p.number)))
  tail_recorded p sound held became same = ⊎_elim
      (λ is.
      let from : p.from ≡ first_open_of p = sym (eqb-true (first_open_of p) p.from is.0) in
      let turn : p.turn ≡ (marked_page p).turn = sym (cond-true (first_open_of p == p.from) p.turn (next_turn p.turn) is.0) in
      with_slot_of held.named held.low
      (subst (λ t. Records (bytes_of slots) t (state_as held.named p (first_open_of p) p.rows len_of)) turn
      (subst (λ x. Records (bytes_of slots) p.turn (state_as held.named p x p.rows len_of)) from
      (subst (λ o. Records (bytes_of o) p.turn (state_as held.named p p.from p.rows len_of)) (sym is.1) held.records))))
      (λ is.
      let turn : next_turn p.turn ≡ (marked_page p).turn = sym (cond-false (first_open_of p == p.from) p.turn (next_turn p.turn) is.0) in
      with_slot_of p.number sound.number
      (subst (λ t. Records (bytes_of slots) t now) turn
      (subst (λ o. Records (bytes_of o) (next_turn p.turn) now) (sym is.1)
      (recorded (bytes_of (folder (checkpoint p.number))) p.turn (state_as held.named p p.from p.rows len_of) now held.records (fits_slot p (next_turn p.turn) (first_open_of p) len_of p.rows sound (next_fits p.turn) (open_fits p sound) (omega arith) held.short)))))
      became
    where
      slots : Option (List ℕ)
      slots = new (names (checkpoint p.number))

      len_of : ℕ
      len_of = length held.bytes

      now : PageState
      now = state_at p (first_open_of p) p.rows (length held.bytes)

      with_slot_of : (named : ℕ) → named < 2 ^ 32 - 1 → Records (bytes_of slots) (marked_page p).turn (state_as named p (first_open_of p) p.rows len_of) → TailHeld (marked_page p) slots (new (names (page p.number)))
      with_slot_of named low records = record {
        bytes = held.bytes;
        rest = held.rest;
        stands = same ∙ held.stands;
        is_page = held.is_page;
        short = held.short;
        named = named;
        low = low;
        records = records;
      }

  tails_recorded : (number end : ℕ) (tails : List Page) (held : TailsHeld tails folder) → Rising number end tails top → AllBecame tails held → ((n : ℕ) → new (names (page n)) ≡ folder (page n)) → TailsHeld (marked_pages tails) (read_in names new)
  tails_recorded number end [] held rising became pages = tt
  tails_recorded number end (p ∷ tails) held rising became pages =
      (tail_recorded p rising.3 held.0 became.0 (pages p.number), tails_recorded (suc p.number) (p.least + length p.rows) tails held.1 rising.4 became.1 pages)

  last_became : (tails : List Page) (held : TailsHeld tails folder) → AllBecame tails held → new (names head) ≡ with_mark head top len
  last_became [] held became = became
  last_became (p ∷ tails) held became = last_became tails held.1 became.1

module _ (names : Names) (apart : AreApart names) (q : Queue) (old new : Content) (marks : List Mark) (is : IsQueue q) (held : Held q (read_in names old))
    (are : AreMarksOf names q.top (length (held.top.front ++ held.top.tail)) q.tails (read_in names old) held.tails marks) (wrote : Wrote (writes_of marks) old new) where
  abbrev before_marks : Folder
  before_marks = read_in names old

  abbrev all_bytes : List ℕ
  all_bytes = held.top.front ++ held.top.tail

  rising_top : (number end : ℕ) (tails : List Page) → Rising number end tails q.top → IsSound q.top
  rising_top number end [] rising = rising.2
  rising_top number end (p ∷ tails) rising = rising_top (suc p.number) (p.least + length p.rows) tails rising.4

  pages_same : (n : ℕ) → new (names (page n)) ≡ old (names (page n))
  pages_same n = beside_still (writes_of marks) (names (page n)) old new
      (all_beside names apart q.top (length all_bytes) before_marks (page n) q.tails held.tails marks (page_other names apart q.top (length all_bytes) before_marks n q.tails) are) wrote

  became : AllBecame names apart q.top (length all_bytes) before_marks new q.tails held.tails
  became = all_became names apart q.top (length all_bytes) before_marks new 0 0 q.tails held.tails marks old is are (refl, λ n from. refl) wrote

  top_recorded : TopHeld (marked q) (new (names head)) (new (names (page q.top.number)))
  top_recorded =
      let sound = rising_top 0 0 q.tails is in
      let n = length q.top.rows in
      let rows : take n q.top.rows ≡ q.top.rows = take_all n q.top.rows (omega arith) in
      let none : drop n q.top.rows ≡ [] = ap (drop n) (sym (append-nil q.top.rows)) ∙ drop-append_seam q.top.rows [] in
      let now = state_at q.top (first_open_of q.top) q.top.rows (length all_bytes) in
      let fits = fits_slot q.top (next_turn q.top.turn) (first_open_of q.top) (length all_bytes) q.top.rows sound (next_fits q.top.turn) (open_fits q.top sound) (omega arith) held.top.short in
      let slot = recorded (bytes_of (old (names head))) q.top.turn (state_at q.top q.top.from (take q.marked q.top.rows) (length held.top.front)) now held.top.records fits in
      record {
        front = all_bytes;
        tail = [];
        stands = pages_same q.top.number ∙ held.top.stands ∙ ap Some (sym (append-nil all_bytes));
        marked = omega arith;
        is_page = subst (IsPage all_bytes q.top.version q.top.least) (sym rows) (is_whole q (old (names head)) (old (names (page q.top.number))) sound held.top);
        behind = subst (λ l. AreElements q.top.version (q.top.least + n) (length all_bytes) l []) (sym none) refl;
        short = subst (λ (b : List ℕ). length b < 2 ^ 64) (sym (append-nil all_bytes)) held.top.short;
        records = subst (λ o. Records (bytes_of o) (next_turn q.top.turn) (state_at q.top (first_open_of q.top) (take n q.top.rows) (length all_bytes)))
            (sym (last_became names apart q.top (length all_bytes) before_marks new q.tails held.tails became))
            (subst (λ l. Records (with_slot (place_of 48 (next_turn q.top.turn)) (slot_spelling (next_turn q.top.turn) now) (bytes_of (old (names head)))) (next_turn q.top.turn) (state_at q.top (first_open_of q.top) l (length all_bytes))) (sym rows) slot);
      }

  pub marked_held : Held (marked q) (read_in names new)
  marked_held = record {
    tails = tails_recorded names apart q.top (length all_bytes) before_marks new 0 0 q.tails held.tails is became pages_same;
    gone = λ n less none. pages_same n ∙ held.gone n less (marked_none n q.tails none);
    top = top_recorded;
    no_pages = λ n above fits. pages_same n ∙ held.no_pages n above fits;
    no_checkpoints = λ n above fits. beside_still (writes_of marks) (names (checkpoint n)) old new
        (all_beside names apart q.top (length all_bytes) before_marks (checkpoint n) q.tails held.tails marks (above_role names apart q.top (length all_bytes) before_marks n 0 0 q.tails above is) are) wrote
        ∙ held.no_checkpoints n above fits;
  }

pub marks_record : MarksRecord
marks_record names q old new marks apart is held are wrote = (marked_rising 0 0 q.tails q.top is, marked_held names apart q old new marks is held are wrote)
