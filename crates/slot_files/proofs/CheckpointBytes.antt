-- The bytes of a slot of a checkpoint file.
use Rattle.std.proofs.Common.{◌≡◌, ℕ, ◌<◌, ◌^◌, List, ◌++◌, length, take, drop, refl, sym, ap, ◌∙◌, arith}
use Rattle.byteorder.specs.Endian.{big_bytes, big_number}
use Rattle.byteorder.specs.Numbers.{big_from-lt, big_number-reads_back}
use Rattle.crc_frame.specs.Slots.{turn_of, IsSlotOf}
use Rattle.crc_frame.specs.Bytes.{IsBytes}
use Rattle.crc_frame.proofs.Numbers.{IsBytes-drop}
use Rattle.io_traits.specs.declared.pages.PageState.{PageState}
use Rattle.slot_files.specs.Checkpoints.{slot_body, slot_spelling, FitsSlot, version_of, says, zero_of, slot_in, SlotsAreReadBack, SlotsAreSpelled, NoSlotBeginsAnother}
use Rattle.slot_files.proofs.SlotBytes as slot

abbrev fields : PageState → List ℕ
fields s = big_bytes 4 s.page ++ big_bytes 8 s.first_open ++ big_bytes 8 s.least ++ big_bytes 4 s.count ++ big_bytes 8 s.length

read_fields : (turn : ℕ) (s : PageState) → FitsSlot turn s → says (slot.with_crc (slot.body_by fields turn s)) ≡ s
unfolding says
read_fields turn s fits =
    let whole = slot.with_crc (slot.body_by fields turn s) in
    let page = big_number-reads_back 4 s.page (drop 14 whole) fits.page in
    let first_open = big_number-reads_back 8 s.first_open (drop 22 whole) fits.first_open in
    let least = big_number-reads_back 8 s.least (drop 30 whole) fits.least in
    let count = big_number-reads_back 4 s.count (drop 34 whole) fits.count in
    let length = big_number-reads_back 8 s.length (drop 42 whole) fits.length in
    λ i. record { page = page i; first_open = first_open i; least = least i; count = count i; length = length i }

read_fits : (bytes : List ℕ) → IsBytes bytes → FitsSlot (turn_of bytes) (says bytes)
unfolding turn_of says
read_fits bytes fit = record {
  turn_fits = big_from-lt 0 8 (drop 2 bytes) (IsBytes-drop 2 bytes fit);
  page = big_from-lt 0 4 (drop 10 bytes) (IsBytes-drop 10 bytes fit);
  first_open = big_from-lt 0 8 (drop 14 bytes) (IsBytes-drop 14 bytes fit);
  least = big_from-lt 0 8 (drop 22 bytes) (IsBytes-drop 22 bytes fit);
  count = big_from-lt 0 4 (drop 30 bytes) (IsBytes-drop 30 bytes fit);
  length = big_from-lt 0 8 (drop 34 bytes) (IsBytes-drop 34 bytes fit);
}

fields_next : (bytes : List ℕ) → IsBytes bytes → length bytes ≡ 48 → big_bytes 2 1 ++ big_bytes 8 (big_number 8 (drop 2 bytes)) ≡ take 10 bytes
    → big_bytes 2 1 ++ big_bytes 8 (big_number 8 (drop 2 bytes)) ++ fields (says bytes) ≡ take 42 bytes
unfolding says
fields_next bytes fit long ten =
    let page = slot.field_next bytes _ 10 4 fit (omega (arith, long)) ten in
    let first_open = slot.field_next bytes _ 14 8 fit (omega (arith, long)) page in
    let least = slot.field_next bytes _ 22 8 fit (omega (arith, long)) first_open in
    let count = slot.field_next bytes _ 30 4 fit (omega (arith, long)) least in
    slot.field_next bytes _ 34 8 fit (omega (arith, long)) count

spells : slot.Spells 48 fields says FitsSlot
spells = record {
  wide = omega arith;
  long = λ turn s. refl;
  read_fields = read_fields;
  read_zero = λ turn s. big_number-reads_back 2 0 (drop 44 (slot.with_crc (slot.body_by fields turn s))) (omega arith);
  turn_fits = λ turn s fits. fits.turn_fits;
  fits = read_fits;
  fields_next = fields_next;
}

module _ (turn : ℕ) (s : PageState) where
  pub length-spelling : length (slot_spelling turn s) ≡ 48
  unfolding slot_spelling slot_body
  length-spelling = refl

  pub read_version : version_of (slot_spelling turn s) ≡ 1
  unfolding version_of slot_spelling slot_body
  read_version = big_number-reads_back 2 1 (drop 2 (slot_spelling turn s)) (omega arith)

  pub read_state : FitsSlot turn s → says (slot_spelling turn s) ≡ s
  unfolding slot_spelling slot_body
  read_state fits = read_fields turn s fits

  pub spelling_is_slot : turn < 2 ^ 64 → IsSlotOf 48 turn (slot_spelling turn s)
  unfolding slot_spelling slot_body
  spelling_is_slot fits = slot.spelling_is_slot spells turn s fits

pub slots_are_read_back : SlotsAreReadBack
unfolding slot_in version_of zero_of slot_spelling slot_body
slots_are_read_back bytes turn s is = ap slot_in (sym is.spelled) ∙ slot.read_back spells turn s is.fits

pub slots_are_spelled : SlotsAreSpelled
unfolding slot_in version_of zero_of slot_spelling slot_body
slots_are_spelled bytes turn s fit read = let is = slot.is_spelled spells bytes turn s fit read in record { fits = is.0; spelled = is.1 }

pub none_begins_another : NoSlotBeginsAnother
unfolding slot_spelling slot_body
none_begins_another bytes more turn other_turn s other one two = slot.none_begins_another spells bytes more turn other_turn s other one.fits two.fits one.spelled two.spelled
