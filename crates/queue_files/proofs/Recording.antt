-- What a checkpoint tells, whose newest slot records a page.
use Rattle.std.proofs.Common.{◌≡◌, ◌⊎◌, inl, inr, ⊎_elim, ℕ, ◌+◌, ◌-◌, ◌<◌, ◌≤◌, ◌^◌, ◌==◌, nat_lt, false, List, length, Option, Some, Result, Ok, Err, sym, ◌∙◌, ap, subst, arith}
use Rattle.std.proofs.lemmas.Bool.{cond-true, cond-false, cases_Bool, eqb-true, eq-eqb}
use Rattle.std.proofs.lemmas.Bool.Decides.{nat_tests}
use Rattle.io_traits.specs.Reads.{bytes_of}
use Rattle.crc_frame.specs.Slots.{place_of, slot_of, next_turn, IsSlotOf, MayHoldSlot, NewestIs}
use Rattle.crc_frame.proofs.TornSlots.{next_slot_is_old_or_new}
use Rattle.io_traits.specs.Images.{FileImage, at_rest}
use Rattle.io_traits.specs.declared.pages.PageState.{PageState}
use Rattle.slot_files.specs.Checkpoints.{FitsSlot, slot_spelling, says, version_at, version_of, slots_of}
use Rattle.slot_files.specs.declared.checkpoint.Slots.{Slots}
use Rattle.slot_files.proofs.CheckpointBytes.{read_version, read_state, spelling_is_slot}
use Rattle.slot_files.proofs.CheckpointReads.{newest_says, sayer}
use Rattle.slot_files.proofs.SlotWrites.{may_hold}
use Rattle.queue_page.specs.declared.row.PageRow.{PageRow}
use Rattle.queue_files.specs.Checkpoints.{Mismatch, misfit, bounded, told, told_by}
use Rattle.queue_files.specs.Kept.{Page, state_as, state_at, IsSound}
use Rattle.queue_files.specs.Resting.{Records, MayRecord}
use Rattle.queue_files.specs.Laws.{ReadIsRecorded}

-- a state of a page is within its bounds
pub named_within : (named : ℕ) (p : Page) (x len : ℕ) (rows : List PageRow) → named < 2 ^ 32 - 1 → IsSound p → length rows ≤ length p.rows → bounded (state_as named p x rows len) ≡ Ok (state_as named p x rows len)
unfolding bounded
named_within named p x len rows low sound few =
    let page : (named == 0xFFFF_FFFF) ≡ false = grind (arith, nat_tests, low) in
    let least : (p.least == 0) ≡ false = grind (arith, nat_tests, sound.least) in
    let numbers : nat_lt 0x7FFF_FFFF_FFFF_FFFF (p.least + length rows) ≡ false = grind (arith, nat_tests, sound.numbers, few) in
    cond-false _ _ _ page ∙ cond-false _ _ _ least ∙ cond-false _ _ _ numbers

pub within_bounds : (p : Page) (x len : ℕ) (rows : List PageRow) → IsSound p → length rows ≤ length p.rows → bounded (state_at p x rows len) ≡ Ok (state_at p x rows len)
within_bounds p x len rows sound few = named_within p.number p x len rows sound.number sound few

-- its fields fit into a slot
pub fits_slot : (p : Page) (turn x len : ℕ) (rows : List PageRow) → IsSound p → turn < 2 ^ 64 → x < 2 ^ 64 → length rows ≤ length p.rows → len < 2 ^ 64 → FitsSlot turn (state_at p x rows len)
fits_slot p turn x len rows sound turn_fits open_fits few short = record {
  turn_fits = turn_fits;
  page = omega (arith, sound.number);
  first_open = open_fits;
  least = omega (arith, sound.numbers);
  count = omega (arith, sound.count, few);
  length = short;
}

pub records_told : (slots : Option (List ℕ)) (turn : ℕ) (s : PageState) → Records (bytes_of slots) turn s → bounded s ≡ Ok s → told slots ≡ Ok s
records_told slots turn s r good =
    let file = bytes_of slots in
    let newest : (slots_of file).newest ≡ Some (r.slot.turn, says r.bytes) = newest_says file r.slot r.bytes r.newest in
    let version : (slots_of file).version ≡ 1 = ap (version_at file) r.newest.is ∙ ap version_of r.newest.bytes_are ∙ r.version_is in
    ap (told_by (slots_of file)) newest ∙ cond-true _ _ _ (eq-eqb _ _ version) ∙ ap bounded r.says_is ∙ good

-- a slot as it is written
pub spelled_records : (file : List ℕ) (turn : ℕ) (s : PageState) → FitsSlot turn s → NewestIs 48 file (slot_of 48 (slot_spelling turn s)) (slot_spelling turn s) → Records file turn s
spelled_records file turn s fits newest = record {
  fits = fits;
  slot = slot_of 48 (slot_spelling turn s);
  bytes = slot_spelling turn s;
  newest = newest;
  turn_is = (spelling_is_slot turn s fits.turn_fits).turn_is;
  version_is = read_version turn s;
  says_is = read_state turn s fits;
}

-- and as it is read
version_told : (slots : Slots) (newest : ℕ × PageState) (s : PageState) → told_by slots (Some newest) ≡ Ok s → slots.version ≡ 1
version_told slots newest s is = elim (cases_Bool (slots.version == 1)) [
  | inl one ↦ eqb-true slots.version 1 one
  | inr other ↦ absurd (not_ok (misfit 0 slots.version 1) s (sym (cond-false (slots.version == 1) (bounded newest.1) (Err (misfit 0 slots.version 1)) other) ∙ is))
]
  where
    not_ok : (m : Mismatch) (s : PageState) → ◌≡◌ {A = Result PageState Mismatch} (Err m) (Ok s) → ⊥
    not_ok m s is = absurd cc

pub read_is_recorded : ReadIsRecorded
read_is_recorded slots turn s fits said tells =
    let file = bytes_of slots in
    let w = sayer file turn s said in
    let version : (slots_of file).version ≡ 1 = version_told (slots_of file) (turn, s) s (sym (ap (told_by (slots_of file)) said) ∙ tells) in
    record {
      fits = fits;
      slot = w.newest;
      bytes = w.bytes;
      newest = w.is;
      turn_is = w.turn_is;
      version_is = sym (ap (version_at file) w.is.is ∙ ap version_of w.is.bytes_are) ∙ version;
      says_is = w.says_it;
    }

-- a checkpoint that may have been written says what it said, or what was written
pub torn_records : (slots : Option (List ℕ)) (turn : ℕ) (s t : PageState) (f : FileImage) → Records (bytes_of slots) turn s → FitsSlot (next_turn turn) t → MayRecord slots turn t f
    → Records (bytes_of f.file) turn s ⊎ Records (bytes_of f.file) (next_turn turn) t
torn_records slots turn s t f r fits may = ⊎_elim
    (λ (rests : f ≡ at_rest slots). inl (subst (λ (g : FileImage). Records (bytes_of g.file) turn s) (sym rests) r))
    (λ torn.
    let new = slot_spelling (next_turn turn) t in
    let holds : MayHoldSlot 48 (place_of 48 (next_turn turn)) new (bytes_of slots) (bytes_of f.file) = may_hold (next_turn turn) t fits slots f torn may.no_chance in
    let slot : IsSlotOf 48 (next_turn turn) new = spelling_is_slot (next_turn turn) t fits.turn_fits in
    ⊎_elim
    (λ still. inl (record { fits = r.fits; slot = r.slot; bytes = r.bytes; newest = still; turn_is = r.turn_is; version_is = r.version_is; says_is = r.says_is }))
    (λ written. inr (spelled_records (bytes_of f.file) (next_turn turn) t fits written))
    (next_slot_is_old_or_new 48 (bytes_of slots) (bytes_of f.file) r.bytes new r.slot (omega arith) (omega (arith, r.turn_is, r.fits.turn_fits)) r.newest
    (subst (λ n. IsSlotOf 48 (next_turn n) new) (sym r.turn_is) slot)
    (subst (λ n. MayHoldSlot 48 (place_of 48 (next_turn n)) new (bytes_of slots) (bytes_of f.file)) (sym r.turn_is) holds)))
    may.rests_or_torn
