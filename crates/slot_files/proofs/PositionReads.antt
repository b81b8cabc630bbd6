-- What a position file records.
use Rattle.std.proofs.Common.{◌≡◌, ◌≢◌, ◌⊎◌, inl, inr, ℕ, ◌<◌, ◌≤◌, List, length, take, Option, Some, None, refl, sym, ◌∙◌, arith, subst}
use Rattle.std.proofs.lemmas.Nat.{mod_below}
use Rattle.crc_frame.specs.Slots.{place_of, turn_of}
use Rattle.slot_files.specs.Slots.{newest_bytes, ComesNext, first, next, broken_slot}
use Rattle.slot_files.proofs.Saying.{by_slot as said_by_slot, without_slot as said_without_slot, front_said, broken_differs, slot_has_room}
use Rattle.slot_files.specs.Positions.{position_of, position_said, damaged_at_first, recorded_in, DamagesDiffer, PositionsHaveRoom}
use Rattle.slot_files.specs.PositionWrites.{IsNextTurn}
use Rattle.slot_files.specs.declared.recorded.Recorded.TheVariants.{Nothing, Position, Damaged}

-- by its newest slot, or none
pub by_slot : (file slot : List ℕ) → newest_bytes 24 file ≡ Some slot → recorded_in file ≡ Position (turn_of slot) (position_of slot)
by_slot file slot is = said_by_slot position_said damaged_at_first Nothing 24 file slot is

-- a file without one
without_slot : (file : List ℕ) → newest_bytes 24 file ≡ None → ((length file ≤ 24) × (recorded_in file ≡ Nothing)) ⊎ ((24 < length file) × (recorded_in file ≡ damaged_at_first (broken_slot (take 24 file))))
without_slot file is = said_without_slot position_said damaged_at_first Nothing 24 file is

-- ---- which turn comes next

next_by : (file : List ℕ) (turn : ℕ) (found : Option (List ℕ)) → newest_bytes 24 file ≡ found → IsNextTurn (recorded_in file) turn → ComesNext 24 file turn
next_by file turn (Some slot) is comes =
    let n : IsNextTurn (Position (turn_of slot) (position_of slot)) turn = subst (λ r. IsNextTurn r turn) (by_slot file slot is) comes in
    next slot is n.0 n.1
next_by file turn None is comes = elim (without_slot file is) [
  | inl few ↦ first is few.0 (subst (λ r. IsNextTurn r turn) few.1 comes)
  | inr many ↦ absurd (subst (λ r. IsNextTurn r turn) many.1 comes)
]

pub comes_next : (file : List ℕ) (turn : ℕ) → IsNextTurn (recorded_in file) turn → ComesNext 24 file turn
comes_next file turn comes = next_by file turn (newest_bytes 24 file) refl comes

-- ---- the front of a file is enough

pub front_records : (file : List ℕ) → recorded_in (take 48 file) ≡ recorded_in file
front_records file = front_said position_said damaged_at_first Nothing 24 (omega arith) file

-- ---- what is damaged differs

damaged_by : (file : List ℕ) (found expected : ℕ) (slot : Option (List ℕ)) → newest_bytes 24 file ≡ slot → recorded_in file ≡ Damaged found expected → found ≢ expected
damaged_by file found expected (Some slot) is said = let other : Position (turn_of slot) (position_of slot) ≡ Damaged found expected = sym (by_slot file slot is) ∙ said in λ same. cc
damaged_by file found expected None is said = elim (without_slot file is) [
  | inl few ↦ let other : Nothing ≡ Damaged found expected = sym few.1 ∙ said in λ same. cc
  | inr many ↦ λ same.
      let pair = broken_slot (take 24 file) in
      let these : Damaged pair.0 pair.1 ≡ Damaged found expected = sym many.1 ∙ said in
      let one : pair.0 ≡ found = cc in
      let other : pair.1 ≡ expected = cc in
      broken_differs 24 file (omega arith) many.0 is (one ∙ same ∙ sym other)
]

pub damages_differ : DamagesDiffer
damages_differ file found expected said = damaged_by file found expected (newest_bytes 24 file) refl said

-- ---- room for the next slot

room_by : (file : List ℕ) (turn position next_one : ℕ) (slot : Option (List ℕ)) → newest_bytes 24 file ≡ slot → recorded_in file ≡ Position turn position → place_of 24 next_one ≤ length file
room_by file turn position next_one (Some slot) is said = slot_has_room 24 file slot next_one (omega arith) is
room_by file turn position next_one None is said = elim (without_slot file is) [
  | inl few ↦ let other : Nothing ≡ Position turn position = sym few.1 ∙ said in cc
  | inr many ↦ let half = mod_below next_one 2 (omega arith) in omega (arith, many.0, half)
]

pub positions_have_room : PositionsHaveRoom
positions_have_room file turn position next_one said = room_by file turn position next_one (newest_bytes 24 file) refl said
