-- The bytes of a slot, field by field, in each kind of file of two slots: what a slot spells is read, what is read is spelled so, and no slot begins another.
use Rattle.std.proofs.Common.{◌≡◌, inl, inr, ℕ, ◌+◌, ◌-◌, ◌<◌, ◌≤◌, ◌^◌, ◌==◌, ◌&&◌, true, List, [], ◌++◌, length, take, drop, Option, Some, None, if◌then◌else◌, refl, sym, ap, ◌∙◌, subst, arith, append-nil, length-append, length-drop}
use Rattle.std.proofs.Math.Path.{ap₂}
use Rattle.std.proofs.Math.Seq.{take-add}
use Rattle.std.proofs.lemmas.Bool.{and_from, and_parts, eq-eqb, eqb-true, cond-true, cond-false, cases_Bool}
use Rattle.std.proofs.lemmas.List.{nil_from_length}
use Rattle.std.proofs.lemmas.Option.{none-some, some_pair_parts}
use Rattle.byteorder.specs.Endian.{big_bytes, big_number}
use Rattle.byteorder.specs.Numbers.{big_number-reads_back}
use Rattle.crc_frame.specs.Crc.{crc32}
use Rattle.crc_frame.specs.Slots.{place_of, turn_of, is_slot, IsSlotOf}
use Rattle.crc_frame.specs.Bytes.{IsBytes}
use Rattle.crc_frame.proofs.Numbers.{IsBytes-drop, big_bytes-big_number}
use Rattle.crc_frame.proofs.CrcLemmas.{is_checked-append, checked_parts}

-- a body with its CRC-32 behind it
abbrev pub with_crc : List ℕ → List ℕ
with_crc body = body ++ big_bytes 4 (crc32 body)

-- where it is as wide as a slot, it is an intact one at the place of its turn
pub is_slot_of : (width turn : ℕ) (body : List ℕ) → length (with_crc body) ≡ width → turn_of (with_crc body) ≡ turn → IsSlotOf width turn (with_crc body)
unfolding is_slot
is_slot_of width turn body long turn_is = record {
  intact = and_from _ _ (and_from _ _ (eq-eqb _ _ long) (is_checked-append body)) (eq-eqb _ _ (ap (place_of width) (sym turn_is)));
  turn_is = turn_is;
}

-- one field more
pub field_next : (bytes front : List ℕ) (at width : ℕ) → IsBytes bytes → at + width ≤ length bytes → front ≡ take at bytes → front ++ big_bytes width (big_number width (drop at bytes)) ≡ take (at + width) bytes
field_next bytes front at width fit long is =
    ap₂ (λ (a b : List ℕ). a ++ b) is (big_bytes-big_number width (drop at bytes) (omega (arith, long, length-drop at bytes)) (IsBytes-drop at bytes fit)) ∙ sym (take-add at width bytes)

-- and one whose number is known
known_next : (bytes front : List ℕ) (at width number : ℕ) → IsBytes bytes → at + width ≤ length bytes → big_number width (drop at bytes) ≡ number → front ≡ take at bytes → front ++ big_bytes width number ≡ take (at + width) bytes
known_next bytes front at width number fit long known is = ap (λ (n : ℕ). front ++ big_bytes width n) (sym known) ∙ field_next bytes front at width fit long is

-- a slot as bytes: the version, which is 1, its turn, what it says, and zero
abbrev pub body_by : {S : Type 0} → (S → List ℕ) → ℕ → S → List ℕ
body_by fields turn s = big_bytes 2 1 ++ big_bytes 8 turn ++ fields s ++ big_bytes 2 0

-- the turn and what is said of the slot that these bytes are, if they are one
abbrev pub slot_by : {S : Type 0} → ℕ → (List ℕ → S) → List ℕ → Option (ℕ × S)
slot_by width says bytes =
    if is_slot width (place_of width (turn_of bytes)) bytes && (big_number 2 bytes == 1) && (big_number 2 (drop (width - 6) bytes) == 0) then Some (turn_of bytes, says bytes) else None

-- what is read of the fields that are spelled, and spelled of those that are read
pub record Spells {S : Type 0} (width : ℕ) (fields : S → List ℕ) (says : List ℕ → S) (Fits : ℕ → S → Type 0) : Type 0 where
  pub wide : 16 ≤ width
  pub long : (turn : ℕ) (s : S) → length (with_crc (body_by fields turn s)) ≡ width
  pub read_fields : (turn : ℕ) (s : S) → Fits turn s → says (with_crc (body_by fields turn s)) ≡ s
  pub read_zero : (turn : ℕ) (s : S) → big_number 2 (drop (width - 6) (with_crc (body_by fields turn s))) ≡ 0
  pub turn_fits : (turn : ℕ) (s : S) → Fits turn s → turn < 2 ^ 64
  pub fits : (bytes : List ℕ) → IsBytes bytes → Fits (turn_of bytes) (says bytes)
  pub fields_next : (bytes : List ℕ) → IsBytes bytes → length bytes ≡ width → big_bytes 2 1 ++ big_bytes 8 (big_number 8 (drop 2 bytes)) ≡ take 10 bytes
      → big_bytes 2 1 ++ big_bytes 8 (big_number 8 (drop 2 bytes)) ++ fields (says bytes) ≡ take (width - 6) bytes

module _ {S : Type 0} {width : ℕ} {fields : S → List ℕ} {says : List ℕ → S} {Fits : ℕ → S → Type 0} (r : Spells width fields says Fits) where
  -- ---- what a slot spells is read

  pub spelling_is_slot : (turn : ℕ) (s : S) → turn < 2 ^ 64 → IsSlotOf width turn (with_crc (body_by fields turn s))
  unfolding turn_of
  spelling_is_slot turn s fits = let body = body_by fields turn s in is_slot_of width turn body (r.long turn s) (big_number-reads_back 8 turn (drop 10 (with_crc body)) fits)

  pub read_back : (turn : ℕ) (s : S) → Fits turn s → slot_by width says (with_crc (body_by fields turn s)) ≡ Some (turn, s)
  read_back turn s fits =
      let whole = with_crc (body_by fields turn s) in
      let is = spelling_is_slot turn s (r.turn_fits turn s fits) in
      let slot : is_slot width (place_of width (turn_of whole)) whole ≡ true = ap (λ t. is_slot width (place_of width t) whole) is.turn_is ∙ is.intact in
      let version = big_number-reads_back 2 1 (drop 2 whole) (omega arith) in
      cond-true _ _ _ (and_from _ _ (and_from _ _ slot (eq-eqb _ _ version)) (eq-eqb _ _ (r.read_zero turn s)))
      ∙ ap Some (ap₂ (λ (t : ℕ) (x : S). (t, x)) is.turn_is (r.read_fields turn s fits))

  -- ---- what is read is spelled

  bytes_spelled : (bytes : List ℕ) → IsBytes bytes → is_slot width (place_of width (turn_of bytes)) bytes ≡ true → big_number 2 bytes ≡ 1 → big_number 2 (drop (width - 6) bytes) ≡ 0
      → with_crc (body_by fields (turn_of bytes) (says bytes)) ≡ bytes
  unfolding is_slot turn_of
  bytes_spelled bytes fit is version zero =
      let slot = and_parts _ _ (and_parts _ _ is).0 in
      let long : length bytes ≡ width = eqb-true _ _ slot.0 in
      let two = known_next bytes [] 0 2 1 fit (omega (arith, long, r.wide)) version refl in
      let ten = field_next bytes _ 2 8 fit (omega (arith, long, r.wide)) two in
      let all = known_next bytes _ (width - 6) 2 0 fit (omega (arith, long, r.wide)) zero (r.fields_next bytes fit long ten) in
      let end : width - 6 + 2 ≡ length bytes - 4 = omega (arith, long, r.wide) in
      ap with_crc (all ∙ ap (λ (n : ℕ). take n bytes) end) ∙ sym (checked_parts bytes (omega (arith, long, r.wide)) fit slot.1)

  pub is_spelled : (bytes : List ℕ) (turn : ℕ) (s : S) → IsBytes bytes → slot_by width says bytes ≡ Some (turn, s) → Fits turn s × (with_crc (body_by fields turn s) ≡ bytes)
  is_spelled bytes turn s fit read = elim (cases_Bool (is_slot width (place_of width (turn_of bytes)) bytes && (big_number 2 bytes == 1) && (big_number 2 (drop (width - 6) bytes) == 0))) [
    | inl is ↦
        let two = and_parts _ _ is in
        let one = and_parts _ _ two.0 in
        let same = some_pair_parts (turn_of bytes) turn (says bytes) s (sym (cond-true _ _ _ is) ∙ read) in
        let spelled = bytes_spelled bytes fit one.0 (eqb-true _ _ one.1) (eqb-true _ _ two.1) in
        subst (λ (t : ℕ). Fits t s × (with_crc (body_by fields t s) ≡ bytes)) same.0
        (subst (λ (x : S). Fits (turn_of bytes) x × (with_crc (body_by fields (turn_of bytes) x) ≡ bytes)) same.1 (r.fits bytes fit, spelled))
    | inr is_not ↦ absurd (none-some (turn, s) (sym (cond-false _ _ _ is_not) ∙ read))
  ]

  -- ---- no slot begins another

  pub none_begins_another : (bytes more : List ℕ) (turn other_turn : ℕ) (s other : S) → Fits turn s → Fits other_turn other
      → with_crc (body_by fields turn s) ≡ bytes → with_crc (body_by fields other_turn other) ≡ bytes ++ more → (turn ≡ other_turn) × (s ≡ other) × (more ≡ [])
  none_begins_another bytes more turn other_turn s other fits other_fits one two =
      let long : length bytes ≡ width = ap length (sym one) ∙ r.long turn s in
      let longer : length (bytes ++ more) ≡ width = ap length (sym two) ∙ r.long other_turn other in
      let none : more ≡ [] = nil_from_length more (omega (arith, long, longer, length-append bytes more)) in
      let bytes_same = one ∙ sym (append-nil bytes) ∙ ap (λ (l : List ℕ). bytes ++ l) (sym none) ∙ sym two in
      let same = some_pair_parts turn other_turn s other (sym (read_back turn s fits) ∙ ap (slot_by width says) bytes_same ∙ read_back other_turn other other_fits) in
      (same.0, same.1, none)
