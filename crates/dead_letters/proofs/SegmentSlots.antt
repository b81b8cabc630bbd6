-- The bytes of a slot of `dead.seg`, and what such a file says.
use Rattle.std.proofs.Common.{◌≡◌, ◌≢◌, inl, inr, ℕ, ◌<◌, ◌≤◌, ◌^◌, nat_lt, false, List, length, take, drop, Option, Some, None, refl, sym, ap, ◌∙◌, arith, subst}
use Rattle.std.proofs.Math.Path.{ap₂}
use Rattle.std.proofs.lemmas.Bool.{cond-true, cond-false, cases_Bool}
use Rattle.std.proofs.lemmas.Bool.Decides.{nat_tests}
use Rattle.byteorder.specs.Numbers.{big_number-reads_back}
use Rattle.crc_frame.specs.Slots.{turn_of, next_turn, IsSlotOf}
use Rattle.slot_files.specs.Slots.{newest_bytes, ComesNext, next, broken_slot}
use Rattle.slot_files.proofs.SlotBytes.{is_slot_of}
use Rattle.slot_files.proofs.Saying.{by_slot, without_slot, broken_differs, slot_has_room}
use Rattle.dead_letters.specs.Segments.{segments, slot_body, slot_spelling, AreSegments, first_of, last_of, length_of, said_by, slot_says, damaged_at_first, counted_in, HasRoom, DamagesDiffer, CountedHaveRoom}
use Rattle.dead_letters.specs.declared.segments.Segments.{Segments}
use Rattle.dead_letters.specs.declared.segments.Counted.TheVariants.{Nothing, Count, Damaged}

-- ---- what a slot spells is read

module _ (turn : ℕ) (s : Segments) where
  pub length-spelling : length (slot_spelling turn s) ≡ 32
  unfolding slot_spelling slot_body
  length-spelling = refl

  read_first : s.first < 2 ^ 32 → first_of (slot_spelling turn s) ≡ s.first
  unfolding first_of slot_spelling slot_body
  read_first fits = big_number-reads_back 4 s.first (drop 14 (slot_spelling turn s)) fits

  read_last : s.last < 2 ^ 32 → last_of (slot_spelling turn s) ≡ s.last
  unfolding last_of slot_spelling slot_body
  read_last fits = big_number-reads_back 4 s.last (drop 18 (slot_spelling turn s)) fits

  read_length : s.length < 2 ^ 64 → length_of (slot_spelling turn s) ≡ s.length
  unfolding length_of slot_spelling slot_body
  read_length fits = big_number-reads_back 8 s.length (drop 26 (slot_spelling turn s)) fits

  -- it is an intact slot at the place of its turn
  pub spelling_is_slot : turn < 2 ^ 64 → IsSlotOf 32 turn (slot_spelling turn s)
  unfolding slot_spelling slot_body turn_of
  spelling_is_slot fits = is_slot_of 32 turn (slot_body turn s) refl (big_number-reads_back 8 turn (drop 10 (slot_spelling turn s)) fits)

  pub spelling_says : turn < 2 ^ 64 → AreSegments s → slot_says (slot_spelling turn s) ≡ Count turn s
  spelling_says fits are =
      let order = are.order in
      let test : nat_lt s.last s.first ≡ false = grind (arith, nat_tests, order) in
      let same : segments (first_of (slot_spelling turn s)) (last_of (slot_spelling turn s)) (length_of (slot_spelling turn s)) ≡ s =
      ap (λ f. segments f (last_of (slot_spelling turn s)) (length_of (slot_spelling turn s))) (read_first are.first)
      ∙ ap (λ l. segments s.first l (length_of (slot_spelling turn s))) (read_last are.last) ∙ ap (segments s.first s.last) (read_length are.length) in
      ap₂ said_by (spelling_is_slot fits).turn_is same ∙ cond-false _ _ _ test

-- ---- what is damaged differs, and what counts has room

said_order : (turn said_turn : ℕ) (s said : Segments) → said_by turn s ≡ Count said_turn said → said.first ≤ said.last
said_order turn said_turn s said is = elim (cases_Bool (nat_lt s.last s.first)) [
  | inl above ↦ let other : Damaged s.first s.last ≡ Count said_turn said = sym (cond-true _ _ _ above) ∙ is in absurd (damaged_is_none s said said_turn other)
  | inr not_above ↦
      let these : Count turn s ≡ Count said_turn said = sym (cond-false _ _ _ not_above) ∙ is in
      let same : s ≡ said = cc in
      let order : s.first ≤ s.last = grind (arith, nat_tests, not_above) in
      subst (λ (x : Segments). x.first ≤ x.last) same order
]
  where
    damaged_is_none : (s said : Segments) (said_turn : ℕ) → Damaged s.first s.last ≡ Count said_turn said → ⊥
    damaged_is_none s said said_turn e = cc

said_damage : (turn found expected : ℕ) (s : Segments) → said_by turn s ≡ Damaged found expected → found ≢ expected
said_damage turn found expected s is = elim (cases_Bool (nat_lt s.last s.first)) [
  | inl above ↦ λ same.
      let these : Damaged s.first s.last ≡ Damaged found expected = sym (cond-true _ _ _ above) ∙ is in
      let one : s.first ≡ found = cc in
      let other : s.last ≡ expected = cc in
      let less : s.last < s.first = grind (arith, nat_tests, above) in
      omega (arith, less, one, other, same)
  | inr not_above ↦ let other : Count turn s ≡ Damaged found expected = sym (cond-false _ _ _ not_above) ∙ is in λ same. cc
]

damaged_by : (file : List ℕ) (found expected : ℕ) (slot : Option (List ℕ)) → newest_bytes 32 file ≡ slot → counted_in file ≡ Damaged found expected → found ≢ expected
damaged_by file found expected (Some slot) is said =
    said_damage (turn_of slot) found expected (segments (first_of slot) (last_of slot) (length_of slot)) (sym (by_slot slot_says damaged_at_first Nothing 32 file slot is) ∙ said)
damaged_by file found expected None is said = elim (without_slot slot_says damaged_at_first Nothing 32 file is) [
  | inl few ↦ let other : Nothing ≡ Damaged found expected = sym few.1 ∙ said in λ same. cc
  | inr many ↦ λ same.
      let pair = broken_slot (take 32 file) in
      let these : Damaged pair.0 pair.1 ≡ Damaged found expected = sym many.1 ∙ said in
      let one : pair.0 ≡ found = cc in
      let other : pair.1 ≡ expected = cc in
      broken_differs 32 file (omega arith) many.0 is (one ∙ same ∙ sym other)
]

pub damages_differ : DamagesDiffer
damages_differ file found expected said = damaged_by file found expected (newest_bytes 32 file) refl said

no_count : (pair : ℕ × ℕ) (turn : ℕ) (s : Segments) → Damaged pair.0 pair.1 ≡ Count turn s → ⊥
no_count pair turn s e = cc

none_counts : (turn : ℕ) (s : Segments) → Nothing ≡ Count turn s → ⊥
none_counts turn s e = cc

-- a file without an intact slot counts no segments
no_slot : (file : List ℕ) (turn : ℕ) (s : Segments) → newest_bytes 32 file ≡ None → counted_in file ≡ Count turn s → ⊥
no_slot file turn s is said = elim (without_slot slot_says damaged_at_first Nothing 32 file is) [
  | inl few ↦ none_counts turn s (sym few.1 ∙ said)
  | inr many ↦ no_count (broken_slot (take 32 file)) turn s (sym many.1 ∙ said)
]

counted_by : (file : List ℕ) (turn : ℕ) (s : Segments) (slot : Option (List ℕ)) → newest_bytes 32 file ≡ slot → counted_in file ≡ Count turn s → HasRoom file s
counted_by file turn s (Some slot) is said = record {
  order = said_order (turn_of slot) turn (segments (first_of slot) (last_of slot) (length_of slot)) s (sym (by_slot slot_says damaged_at_first Nothing 32 file slot is) ∙ said);
  room = λ later. slot_has_room 32 file slot later (omega arith) is;
}
counted_by file turn s None is said = absurd (no_slot file turn s is said)

pub counted_have_room : CountedHaveRoom
counted_have_room file turn s said = counted_by file turn s (newest_bytes 32 file) refl said

-- ---- the turn that comes next

said_turn : (turn of : ℕ) (s t : Segments) → said_by turn s ≡ Count of t → turn ≡ of
said_turn turn of s t is = elim (cases_Bool (nat_lt s.last s.first)) [
  | inl above ↦ let other : Damaged s.first s.last ≡ Count of t = sym (cond-true _ _ _ above) ∙ is in absurd (no_count (s.first, s.last) of t other)
  | inr not_above ↦
      let these : Count turn s ≡ Count of t = sym (cond-false _ _ _ not_above) ∙ is in
      let same : turn ≡ of = cc in
      same
]

next_by : (file : List ℕ) (turn : ℕ) (s : Segments) (slot : Option (List ℕ)) → newest_bytes 32 file ≡ slot → turn < 2 ^ 64 → counted_in file ≡ Count turn s → ComesNext 32 file (next_turn turn)
next_by file turn s (Some slot) is fits said =
    let same : turn_of slot ≡ turn = said_turn (turn_of slot) turn (segments (first_of slot) (last_of slot) (length_of slot)) s (sym (by_slot slot_says damaged_at_first Nothing 32 file slot is) ∙ said) in
    next slot is (omega (arith, same, fits)) (ap next_turn (sym same))
next_by file turn s None is fits said = absurd (no_slot file turn s is said)

pub comes_next : (file : List ℕ) (turn : ℕ) (s : Segments) → turn < 2 ^ 64 → counted_in file ≡ Count turn s → ComesNext 32 file (next_turn turn)
comes_next file turn s fits said = next_by file turn s (newest_bytes 32 file) refl fits said
