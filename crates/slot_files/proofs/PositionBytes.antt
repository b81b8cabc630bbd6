-- The bytes of a slot of a position file.
use Rattle.std.proofs.Common.{◌≡◌, ℕ, ◌<◌, ◌^◌, length, drop, refl, sym, ap, ◌∙◌, arith}
use Rattle.byteorder.specs.Endian.{big_bytes}
use Rattle.byteorder.specs.Numbers.{big_from-lt, big_number-reads_back}
use Rattle.crc_frame.specs.Slots.{turn_of, IsSlotOf}
use Rattle.crc_frame.proofs.Numbers.{IsBytes-drop}
use Rattle.slot_files.specs.Positions.{slot_body, slot_spelling, version_of, position_of, zero_of, slot_in, SlotsAreReadBack, SlotsAreSpelled, NoSlotBeginsAnother}
use Rattle.slot_files.proofs.SlotBytes as slot

abbrev Fits : ℕ → ℕ → Type 0
Fits turn position = (turn < 2 ^ 64) × (position < 2 ^ 64)

spells : slot.Spells 24 (big_bytes 8) position_of Fits
unfolding turn_of position_of
spells = record {
  wide = omega arith;
  long = λ turn position. refl;
  read_fields = λ turn position fits. big_number-reads_back 8 position (drop 18 (slot.with_crc (slot.body_by (big_bytes 8) turn position))) fits.1;
  read_zero = λ turn position. big_number-reads_back 2 0 (drop 20 (slot.with_crc (slot.body_by (big_bytes 8) turn position))) (omega arith);
  turn_fits = λ turn position fits. fits.0;
  fits = λ bytes fit. (big_from-lt 0 8 (drop 2 bytes) (IsBytes-drop 2 bytes fit), big_from-lt 0 8 (drop 10 bytes) (IsBytes-drop 10 bytes fit));
  fields_next = λ bytes fit long ten. slot.field_next bytes _ 10 8 fit (omega (arith, long)) ten;
}

module _ (turn position : ℕ) where
  pub length-spelling : length (slot_spelling turn position) ≡ 24
  unfolding slot_spelling slot_body
  length-spelling = refl

  pub read_position : turn < 2 ^ 64 → position < 2 ^ 64 → position_of (slot_spelling turn position) ≡ position
  unfolding slot_spelling slot_body
  read_position turn_fits fits = spells.read_fields turn position (turn_fits, fits)

  pub spelling_is_slot : turn < 2 ^ 64 → IsSlotOf 24 turn (slot_spelling turn position)
  unfolding slot_spelling slot_body
  spelling_is_slot fits = slot.spelling_is_slot spells turn position fits

pub slots_are_read_back : SlotsAreReadBack
unfolding slot_in version_of zero_of slot_spelling slot_body
slots_are_read_back bytes turn position is = ap slot_in (sym is.spelled) ∙ slot.read_back spells turn position (is.turn_fits, is.position_fits)

pub slots_are_spelled : SlotsAreSpelled
unfolding slot_in version_of zero_of slot_spelling slot_body
slots_are_spelled bytes turn position fit read =
    let is = slot.is_spelled spells bytes turn position fit read in
    record { turn_fits = is.0.0; position_fits = is.0.1; spelled = is.1 }

pub none_begins_another : NoSlotBeginsAnother
unfolding slot_spelling slot_body
none_begins_another bytes more turn position other_turn other_position one two =
    slot.none_begins_another spells bytes more turn other_turn position other_position (one.turn_fits, one.position_fits) (two.turn_fits, two.position_fits) one.spelled two.spelled
