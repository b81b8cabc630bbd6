-- What a file of two slots says.
use Rattle.std.proofs.Common.{◌≡◌, ◌≢◌, ◌⊎◌, inl, inr, ⊎_elim, ℕ, ◌-◌, ◌%◌, ◌<◌, ◌≤◌, ◌+◌, nat_lt, true, false, List, length, take, drop, Option, Some, None, refl, sym, ap, ◌∙◌, subst, arith, length-take, take-take}
use Rattle.std.proofs.Math.Path.{ap₂}
use Rattle.std.proofs.lemmas.List.{take_rest}
use Rattle.std.proofs.lemmas.Bool.{cond-true, cond-false, cases_Bool, eq-eqb, ne_eqb, false≢true}
use Rattle.std.proofs.lemmas.Bool.Decides.{nat_tests}
use Rattle.std.proofs.lemmas.Nat.{mod_below}
use Rattle.byteorder.specs.Endian.{big_number}
use Rattle.crc_frame.specs.Crc.{crc32, is_checked}
use Rattle.io_traits.specs.Reads.{bytes_of}
use Rattle.crc_frame.specs.Slots.{place_of, turn_of, with_slot, IsSlotOf}
use Rattle.io_traits.specs.Images.{FileImage}
use Rattle.io_traits.specs.Moments.{EachMoment, ImagesTell}
use Rattle.io_traits.specs.declared.stores.Store.{Ghosts as StoreWords}
use Rattle.io_traits.proofs.Moments.{weaker}
use Rattle.crc_frame.proofs.TornSlots.{newest_stands_whole}
use Rattle.slot_files.specs.Changes.{Alters}
use Rattle.slot_files.specs.Slots.{newest_bytes, ComesNext, first, next, OldOrNew, OldOrNewSaid, broken_slot, said_by, said}
use Rattle.slot_files.proofs.NewestSlots.{found, low_place, front_says, written_newest, misplaced_turn_is_odd}

module _ {R : Type 0} (says : List ℕ → R) (broken : ℕ × ℕ → R) (nothing : R) (width : ℕ) where
  -- by its newest slot, or none
  pub by_slot : (file slot : List ℕ) → newest_bytes width file ≡ Some slot → said says broken nothing width file ≡ says slot
  by_slot file slot is = ap (said_by says broken nothing width file) is

  pub by_none : (file : List ℕ) → newest_bytes width file ≡ None → length file ≤ width → said says broken nothing width file ≡ nothing
  by_none file is short =
      let shorter : nat_lt width (length file) ≡ false = grind (arith, nat_tests, short) in
      ap (said_by says broken nothing width file) is ∙ cond-false _ _ _ shorter

  pub by_broken : (file : List ℕ) → newest_bytes width file ≡ None → width < length file → said says broken nothing width file ≡ broken (broken_slot (take width file))
  by_broken file is long =
      let longer : nat_lt width (length file) ≡ true = grind (arith, nat_tests, long) in
      ap (said_by says broken nothing width file) is ∙ cond-true _ _ _ longer

  -- a file without one is no longer than a slot, or damaged
  pub without_slot : (file : List ℕ) → newest_bytes width file ≡ None
      → ((length file ≤ width) × (said says broken nothing width file ≡ nothing)) ⊎ ((width < length file) × (said says broken nothing width file ≡ broken (broken_slot (take width file))))
  without_slot file is = elim (cases_Bool (nat_lt width (length file))) [
    | inl long ↦ let longer : width < length file = grind (arith, nat_tests, long) in inr (longer, by_broken file is longer)
    | inr not_long ↦ let shorter : length file ≤ width = grind (arith, nat_tests, not_long) in inl (shorter, by_none file is shorter)
  ]

  -- the front of a file is enough
  pub front_said : 0 < width → (file : List ℕ) → said says broken nothing width (take (width + width) file) ≡ said says broken nothing width file
  front_said wide file = front_by (newest_bytes width file) refl
    where
      front_by : (found : Option (List ℕ)) → newest_bytes width file ≡ found → said says broken nothing width (take (width + width) file) ≡ said says broken nothing width file
      front_by (Some slot) is = by_slot (take (width + width) file) slot (front_says width file wide ∙ is) ∙ sym (by_slot file slot is)
      front_by None is = elim (without_slot file is) [
        | inl few ↦ by_none (take (width + width) file) (front_says width file wide ∙ is) (omega (arith, few.0, length-take (width + width) file)) ∙ sym few.1
        | inr many ↦
            by_broken (take (width + width) file) (front_says width file wide ∙ is) (omega (arith, wide, many.0, length-take (width + width) file))
            ∙ ap (λ slot. broken (broken_slot slot)) (take-take width (width + width) file (omega arith)) ∙ sym many.1
      ]

  -- ---- a slot that is written

  module _ (wide : 0 < width) (turn : ℕ) (slot : List ℕ) (is : IsSlotOf width turn slot) where
    pub written_said : (old : List ℕ) → ComesNext width old turn → said says broken nothing width (with_slot (place_of width turn) slot old) ≡ says slot
    written_said old comes = by_slot _ slot (written_newest width turn slot wide is old comes)

    -- where the newest slot is what it was, the file says what it said
    same_said : (old new : List ℕ) → ComesNext width old turn → newest_bytes width new ≡ newest_bytes width old → (length old ≤ width → turn ≡ 0 → length new ≤ width)
        → said says broken nothing width new ≡ said says broken nothing width old
    same_said old new (first none few zero) same short = by_none new (same ∙ none) (short few zero) ∙ sym (by_none old none few)
    same_said old new (next last said_so fits turn_is) same short = by_slot new last (same ∙ said_so) ∙ sym (by_slot old last said_so)

    pub old_or_new_said : (f g : FileImage) → OldOrNew width turn slot f g → OldOrNewSaid says broken nothing width turn (says slot) f g
    old_or_new_said f g leaves file rest comes chance =
        let has = leaves file rest comes chance in
        ⊎_elim
        (λ same. inl (same_said (bytes_of file) (bytes_of g.file) comes same (λ few zero.
        let place : place_of width turn ≡ 0 = ap (place_of width) zero ∙ omega arith in
        omega (arith, has.no_longer, few, place))))
        (λ is_new. inr (by_slot (bytes_of g.file) slot is_new))
        has.newest

    -- at each moment of its write
    module _ {S : Type 0} (store : StoreWords S) (tell : ImagesTell store) (name : List ℕ) (old new : S) where
      pub said_moments : (bytes : List ℕ) → length bytes ≡ width → bytes ≡ slot → EachMoment store old new (Alters store name (OldOrNew (length bytes) turn bytes) old)
          → EachMoment store old new (Alters store name (OldOrNewSaid says broken nothing width turn (says slot)) old)
      said_moments bytes long spelled run = weaker store tell old new (Alters store name (OldOrNew (length bytes) turn bytes) old) (Alters store name (OldOrNewSaid says broken nothing width turn (says slot)) old) run
          (λ i told a.
          let of_width : OldOrNew width turn bytes (a.0 name) (i name) = subst (λ w. OldOrNew w turn bytes (a.0 name) (i name)) long a.2.here in
          let of_slot : OldOrNew width turn slot (a.0 name) (i name) = subst (λ b. OldOrNew width turn b (a.0 name) (i name)) spelled of_width in
          (a.0, a.1, record { here = old_or_new_said (a.0 name) (i name) of_slot; there = a.2.there }))

-- the turn of a slot as it is read
pub turn_read : (slot : List ℕ) (turn : ℕ) → turn ≡ big_number 8 (take (length slot - 2) (drop 2 slot)) → turn ≡ turn_of slot
unfolding turn_of
turn_read slot turn is = is ∙ ap (big_number 8) (take_rest slot 2)

-- the two cases of a slot that isn't intact
pub broken_by_turn : (slot : List ℕ) → is_checked slot ≡ true → broken_slot slot ≡ (turn_of slot, turn_of slot - 1)
unfolding broken_slot
broken_by_turn slot is = cond-true _ _ _ is

pub broken_by_crc : (slot : List ℕ) → is_checked slot ≡ false → broken_slot slot ≡ (big_number 4 (drop (length slot - 4) slot), crc32 (take (length slot - 4) slot))
unfolding broken_slot
broken_by_crc slot is = cond-false _ _ _ is

pub same_crc : (slot : List ℕ) → big_number 4 (drop (length slot - 4) slot) ≡ crc32 (take (length slot - 4) slot) → is_checked slot ≡ true
unfolding is_checked
same_crc slot same = eq-eqb _ _ same

pub other_crc : (slot : List ℕ) → big_number 4 (drop (length slot - 4) slot) ≢ crc32 (take (length slot - 4) slot) → is_checked slot ≡ false
unfolding is_checked
other_crc slot differ = ne_eqb _ _ differ

module _ (slot front back : List ℕ) (stored computed : ℕ) (front_is : front ≡ take (length slot - 4) slot) (back_is : back ≡ drop (length slot - 4) slot) (stored_is : stored ≡ big_number 4 back) (computed_is : computed ≡ crc32 front) where
  read : stored ≡ big_number 4 (drop (length slot - 4) slot)
  read = stored_is ∙ ap (big_number 4) back_is

  divided : computed ≡ crc32 (take (length slot - 4) slot)
  divided = computed_is ∙ ap crc32 front_is

  pub tells_crc : stored ≢ computed → (stored, computed) ≡ broken_slot slot
  tells_crc differ = ap₂ (λ (a b : ℕ). (a, b)) read divided ∙ sym (broken_by_crc slot (other_crc slot (λ same. differ (read ∙ same ∙ sym divided))))

  pub tells_turn : (turn less : ℕ) → turn ≡ turn_of slot → less ≡ turn - 1 → stored ≡ computed → (turn, less) ≡ broken_slot slot
  tells_turn turn less turn_is less_is same = ap₂ (λ (a b : ℕ). (a, b)) turn_is (less_is ∙ ap (λ n. n - 1) turn_is) ∙ sym (broken_by_turn slot (same_crc slot (sym read ∙ same ∙ divided)))

-- what stands there differs from what ought to
pub broken_differs : (width : ℕ) (file : List ℕ) → 0 < width → width < length file → newest_bytes width file ≡ None → (broken_slot (take width file)).0 ≢ (broken_slot (take width file)).1
broken_differs width file wide long is = elim (cases_Bool (is_checked (take width file))) [
  | inl checked ↦ λ same.
      let odd = misplaced_turn_is_odd width file wide (omega (arith, long)) is checked in
      let pair = broken_by_turn (take width file) checked in
      omega (arith, odd, ap (λ p. p.0) pair, ap (λ p. p.1) pair, same)
  | inr not_checked ↦ λ same.
      let slot = take width file in
      let pair = broken_by_crc slot not_checked in
      absurd (false≢true (sym not_checked ∙ same_crc slot (sym (ap (λ p. p.0) pair) ∙ same ∙ ap (λ p. p.1) pair)))
]

-- a file with a newest slot is as long as one
pub slot_is_long : (width : ℕ) (file slot : List ℕ) → 0 < width → newest_bytes width file ≡ Some slot → width ≤ length file
slot_is_long width file slot wide is =
    let f = found width file slot wide is in
    let whole = newest_stands_whole width file f.newest wide f.is.is in
    omega (arith, whole.within)

-- so that each slot that comes next has room
pub slot_has_room : (width : ℕ) (file slot : List ℕ) (later : ℕ) → 0 < width → newest_bytes width file ≡ Some slot → place_of width later ≤ length file
slot_has_room width file slot later wide is = omega (arith, slot_is_long width file slot wide is, low_place width (later % 2) (mod_below later 2 (omega arith)))
