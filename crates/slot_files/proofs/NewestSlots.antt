-- The newest slot of a file, after a slot was written into it, be it whole or torn; and what is read of the front of such a file.
use Rattle.std.proofs.Common.{◌≡◌, ◌⊎◌, inl, inr, ⊎_elim, ℕ, ◌+◌, ◌-◌, ◌*◌, ◌%◌, ◌<◌, ◌≤◌, true, IsTrue, List, length, take, drop, Option, Some, None, option_map, if◌then◌else◌, refl, sym, ap, ◌∙◌, arith, subst, length-take, take-take}
use Rattle.std.proofs.Math.Path.{ap₂}
use Rattle.std.proofs.lemmas.Bool.{cases_eq, and_from, eq-eqb, false≢true}
use Rattle.std.proofs.lemmas.List.{drop-take}
use Rattle.std.proofs.lemmas.Nat.{mod_below}
use Rattle.std.proofs.lemmas.Option.{none-some}
use Rattle.io_traits.specs.Reads.{bytes_of}
use Rattle.crc_frame.specs.declared.slots.Slot.{Slot}
use Rattle.crc_frame.specs.Crc.{is_checked}
use Rattle.crc_frame.specs.Slots.{place_of, slot_bytes, is_slot, turn_of, slot_at, newest_of, newest_slot, slot_of, next_turn, with_slot, NewestIs, IsSlotOf, MayHoldSlot}
use Rattle.crc_frame.proofs.SlotLemmas.{none_intact}
use Rattle.crc_frame.proofs.TornSlots.{slot_length, newest_stands_whole, next_slot_is_old_or_new, next_slot_is_read, first_slot_is_none_or_new, first_slot_is_read}
use Rattle.io_traits.specs.Images.{FileImage, TornFile, at_rest}
use Rattle.io_traits.proofs.Tearing.{length-overlaid}
use Rattle.io_traits.specs.Chance.{NoChance}
use Rattle.io_traits.specs.Tails.{passes}
use Rattle.io_traits.proofs.TornFrames.{torn_frame}
use Rattle.slot_files.specs.Slots.{newest_bytes, ComesNext, first, next, OldOrNew}

-- ---- the newest slot by its bytes

pub newest_is : (width : ℕ) (file : List ℕ) (newest : Slot) (bytes : List ℕ) → NewestIs width file newest bytes → newest_bytes width file ≡ Some bytes
newest_is width file newest bytes was = ap (option_map (λ (s : Slot). slot_bytes width s.place file)) was.is ∙ ap Some was.bytes_are

-- the slot that has these bytes
pub record Found (width : ℕ) (file bytes : List ℕ) : Type 0 where
  pub newest : Slot
  pub is : NewestIs width file newest bytes
  pub turn_is : newest.turn ≡ turn_of bytes

found_by : (width : ℕ) (file bytes : List ℕ) (found : Option Slot) → 0 < width → newest_slot width file ≡ found → newest_bytes width file ≡ Some bytes → Found width file bytes
found_by width file bytes None wide is said =
    let none : None ≡ Some bytes = sym (ap (option_map (λ (s : Slot). slot_bytes width s.place file)) is) ∙ said in
    absurd (none-some bytes none)
found_by width file bytes (Some newest) wide is said =
    let made : Some (slot_bytes width newest.place file) ≡ Some bytes = sym (ap (option_map (λ (s : Slot). slot_bytes width s.place file)) is) ∙ said in
    let same : slot_bytes width newest.place file ≡ bytes = cc in
    record { newest = newest; is = record { is = is; bytes_are = same }; turn_is = (newest_stands_whole width file newest wide is).turn ∙ ap turn_of same }

pub found : (width : ℕ) (file bytes : List ℕ) → 0 < width → newest_bytes width file ≡ Some bytes → Found width file bytes
found width file bytes wide said = found_by width file bytes (newest_slot width file) wide refl said

none_by : (width : ℕ) (file : List ℕ) (found : Option Slot) → newest_slot width file ≡ found → newest_bytes width file ≡ None → newest_slot width file ≡ None
none_by width file None is said = is
none_by width file (Some newest) is said =
    let some : Some (slot_bytes width newest.place file) ≡ None = sym (ap (option_map (λ (s : Slot). slot_bytes width s.place file)) is) ∙ said in
    absurd (none-some (slot_bytes width newest.place file) (sym some))

pub no_slot : (width : ℕ) (file : List ℕ) → newest_bytes width file ≡ None → newest_slot width file ≡ None
no_slot width file said = none_by width file (newest_slot width file) refl said

pub none_said : (width : ℕ) (file : List ℕ) → newest_slot width file ≡ None → newest_bytes width file ≡ None
none_said width file is = ap (option_map (λ (s : Slot). slot_bytes width s.place file)) is

-- it is intact, at the place of its turn
pub newest_is_slot : (width : ℕ) (file bytes : List ℕ) → 0 < width → newest_bytes width file ≡ Some bytes → IsSlotOf width (turn_of bytes) bytes
newest_is_slot width file bytes wide said =
    let f = found width file bytes wide said in
    let whole = newest_stands_whole width file f.newest wide f.is.is in
    let here : IsTrue (is_slot width f.newest.place bytes) = subst (λ b. IsTrue (is_slot width f.newest.place b)) f.is.bytes_are whole.intact in
    record { intact = subst (λ p. IsTrue (is_slot width p bytes)) (whole.place ∙ ap (place_of width) f.turn_is) here; turn_is = refl }

-- ---- the front of a file is enough

slot_in_front : (width place : ℕ) (file : List ℕ) → place ≤ width → slot_bytes width place (take (width + width) file) ≡ slot_bytes width place file
slot_in_front width place file low =
    let split : place + (width + width - place) ≡ width + width = omega (arith, low) in
    ap (λ k. take width (drop place (take k file))) (sym split) ∙ ap (take width) (drop-take place (width + width - place) file) ∙ take-take width (width + width - place) (drop place file) (omega (arith, low))

at_in_front : (width place : ℕ) (file : List ℕ) → place ≤ width → slot_at width place (take (width + width) file) ≡ slot_at width place file
at_in_front width place file low = ap (λ b. if is_slot width place b then Some (record { turn = turn_of b; place = place }) else None) (slot_in_front width place file low)

newest_in_front : (width : ℕ) (file : List ℕ) → newest_slot width (take (width + width) file) ≡ newest_slot width file
newest_in_front width file = ap₂ newest_of (at_in_front width 0 file (omega arith)) (at_in_front width width file (omega arith))

-- a slot that was found, by its place
pub record Within (width : ℕ) (file : List ℕ) (slot : Slot) : Type 0 where
  pub low : slot.place ≤ width
  pub inside : slot.place + width ≤ length file

pub low_place : (width k : ℕ) → k < 2 → width * k ≤ width
low_place width k few = elim (cases_eq k 0) [
  | inl zero ↦ let none : width * k ≡ 0 = ap (λ (n : ℕ). width * n) zero ∙ omega arith in omega (arith, none)
  | inr some ↦
      let one : k ≡ 1 = omega (arith, few, some) in
      let all : width * k ≡ width = ap (λ (n : ℕ). width * n) one ∙ omega arith in
      omega (arith, all)
]

pub found_within : (width : ℕ) (file : List ℕ) (slot : Slot) → 0 < width → newest_slot width file ≡ Some slot → Within width file slot
found_within width file slot wide is =
    let whole = newest_stands_whole width file slot wide is in
    let low = low_place width (slot.turn % 2) (mod_below slot.turn 2 (omega arith)) in
    record { low = omega (arith, whole.place, low); inside = whole.within }

bytes_in_front : (width : ℕ) (file : List ℕ) (s : Option Slot) → 0 < width → newest_slot width file ≡ s
    → option_map (λ (x : Slot). slot_bytes width x.place (take (width + width) file)) s ≡ option_map (λ (x : Slot). slot_bytes width x.place file) s
bytes_in_front width file None wide is = refl
bytes_in_front width file (Some s) wide is = ap Some (slot_in_front width s.place file (found_within width file s wide is).low)

pub front_says : (width : ℕ) (file : List ℕ) → 0 < width → newest_bytes width (take (width + width) file) ≡ newest_bytes width file
front_says width file wide =
    ap (option_map (λ (s : Slot). slot_bytes width s.place (take (width + width) file))) (newest_in_front width file) ∙ bytes_in_front width file (newest_slot width file) wide refl

-- ---- a slot that is written

module _ (width turn : ℕ) (slot : List ℕ) (wide : 0 < width) (is : IsSlotOf width turn slot) where
  -- whole
  pub written_newest : (old : List ℕ) → ComesNext width old turn → newest_bytes width (with_slot (place_of width turn) slot old) ≡ Some slot
  written_newest old (first none short zero) =
      let place : place_of width turn ≡ 0 = ap (place_of width) zero ∙ omega arith in
      let of_zero : IsSlotOf width 0 slot = subst (λ t. IsSlotOf width t slot) zero is in
      ap (λ p. newest_bytes width (with_slot p slot old)) place ∙ newest_is width (with_slot 0 slot old) (slot_of width slot) slot (first_slot_is_read width old slot wide short of_zero)
  written_newest old (next last said fits turn_is) =
      let f = found width old last wide said in
      let behind : turn ≡ next_turn f.newest.turn = turn_is ∙ ap next_turn (sym f.turn_is) in
      let of_next : IsSlotOf width (next_turn f.newest.turn) slot = subst (λ t. IsSlotOf width t slot) behind is in
      ap (λ t. newest_bytes width (with_slot (place_of width t) slot old)) behind
      ∙ newest_is width _ (slot_of width slot) slot (next_slot_is_read width old last slot f.newest wide (omega (arith, f.turn_is, fits)) f.is of_next)

  -- or torn
  torn_newest : (old new : List ℕ) → ComesNext width old turn → MayHoldSlot width (place_of width turn) slot old new → (newest_bytes width new ≡ newest_bytes width old) ⊎ (newest_bytes width new ≡ Some slot)
  torn_newest old new (first none short zero) torn =
      let place : place_of width turn ≡ 0 = ap (place_of width) zero ∙ omega arith in
      let at_zero : MayHoldSlot width 0 slot old new = subst (λ p. MayHoldSlot width p slot old new) place torn in
      let of_zero : IsSlotOf width 0 slot = subst (λ t. IsSlotOf width t slot) zero is in
      ⊎_elim (λ still. inl (none_said width new still ∙ sym none)) (λ is_new. inr (newest_is width new (slot_of width slot) slot is_new))
      (first_slot_is_none_or_new width old new slot wide short (no_slot width old none) of_zero at_zero)
  torn_newest old new (next last said fits turn_is) torn =
      let f = found width old last wide said in
      let behind : turn ≡ next_turn f.newest.turn = turn_is ∙ ap next_turn (sym f.turn_is) in
      let of_next : IsSlotOf width (next_turn f.newest.turn) slot = subst (λ t. IsSlotOf width t slot) behind is in
      let at_next : MayHoldSlot width (place_of width (next_turn f.newest.turn)) slot old new = subst (λ t. MayHoldSlot width (place_of width t) slot old new) behind torn in
      ⊎_elim (λ still. inl (newest_is width new f.newest last still ∙ sym said)) (λ is_new. inr (newest_is width new (slot_of width slot) slot is_new))
      (next_slot_is_old_or_new width old new last slot f.newest wide (omega (arith, f.turn_is, fits)) f.is of_next at_next)

  slot_long : length slot ≡ width
  slot_long = slot_length width (place_of width turn) slot is.intact

  pub may_hold : (file : Option (List ℕ)) (f : FileImage) → TornFile (place_of width turn) slot (at_rest file) f → NoChance (passes (is_slot width)) f → MayHoldSlot width (place_of width turn) slot (bytes_of file) (bytes_of f.file)
  may_hold file f torn chance = record {
    before = torn.torn.before;
    behind = subst (λ n. drop (place_of width turn + n) (bytes_of f.file) ≡ drop (place_of width turn + n) (bytes_of file)) slot_long torn.torn.after;
    no_longer = let n = torn.torn.no_longer in omega (arith, n, slot_long);
    there = λ intact. torn_there file f torn chance intact;
  }
    where
      torn_there : (file : Option (List ℕ)) (f : FileImage) → TornFile (place_of width turn) slot (at_rest file) f → NoChance (passes (is_slot width)) f → IsTrue (is_slot width (place_of width turn) (slot_bytes width (place_of width turn) (bytes_of f.file)))
          → (slot_bytes width (place_of width turn) (bytes_of f.file) ≡ slot_bytes width (place_of width turn) (bytes_of file)) ⊎ (slot_bytes width (place_of width turn) (bytes_of f.file) ≡ slot)
      torn_there file f torn chance intact =
          let at = place_of width turn in
          let long : length (slot_bytes width at (bytes_of f.file)) ≡ width = slot_length width at (slot_bytes width at (bytes_of f.file)) intact in
          let as_long : length (take (length slot) (drop at (bytes_of f.file))) ≡ length slot = subst (λ n. length (take n (drop at (bytes_of f.file))) ≡ n) (sym slot_long) long in
          let as_intact : IsTrue (is_slot width at (take (length slot) (drop at (bytes_of f.file)))) = subst (λ n. IsTrue (is_slot width at (take n (drop at (bytes_of f.file))))) (sym slot_long) intact in
          subst (λ n. (take n (drop at (bytes_of f.file)) ≡ take n (drop at (bytes_of file))) ⊎ (take n (drop at (bytes_of f.file)) ≡ slot)) slot_long
          (torn_frame (is_slot width) at slot file f torn chance as_long as_intact)

  pub torn_old_or_new : (f g : FileImage) → TornFile (place_of width turn) slot f g → OldOrNew width turn slot f g
  torn_old_or_new f g torn file rest comes chance =
      let holds = may_hold file g (subst (λ h. TornFile (place_of width turn) slot h g) rest torn) chance in
      record { newest = torn_newest (bytes_of file) (bytes_of g.file) comes holds; no_longer = holds.no_longer }

  pub same_old_or_new : (f : FileImage) → OldOrNew width turn slot f f
  same_old_or_new f file rest comes chance =
      let was : bytes_of f.file ≡ bytes_of file = ap (λ (h : FileImage). bytes_of h.file) rest in
      record { newest = inl (ap (newest_bytes width) was); no_longer = omega (arith, ap length was) }

  pub written_old_or_new : (old new : Option (List ℕ)) → new ≡ Some (with_slot (place_of width turn) slot (bytes_of old)) → OldOrNew width turn slot (at_rest old) (at_rest new)
  written_old_or_new old new wrote file rest comes chance =
      let same : old ≡ file = ap (λ (h : FileImage). h.file) rest in
      let reads : bytes_of new ≡ with_slot (place_of width turn) slot (bytes_of file) = ap bytes_of wrote ∙ ap (λ (o : Option (List ℕ)). with_slot (place_of width turn) slot (bytes_of o)) same in
      record {
        newest = inr (ap (newest_bytes width) reads ∙ written_newest (bytes_of file) comes);
        no_longer = omega (arith, ap length reads, length-overlaid (place_of width turn) slot (bytes_of file), slot_long);
      }

-- ---- no slot is intact, though the checksum of the one at 0 matches

pub misplaced_turn_is_odd : (width : ℕ) (file : List ℕ) → 0 < width → width ≤ length file → newest_bytes width file ≡ None → is_checked (take width file) ≡ true → turn_of (take width file) % 2 ≡ 1
unfolding is_slot
misplaced_turn_is_odd width file wide long said checked = elim (cases_eq (turn_of (take width file) % 2) 0) [
  | inr odd ↦ omega (arith, odd, mod_below (turn_of (take width file)) 2 (omega arith))
  | inl even ↦ absurd (false≢true (sym (none_intact width file wide None (sym (no_slot width file said)) 0) ∙ first_intact width file long checked even))
]
  where
    first_intact : (width : ℕ) (file : List ℕ) → width ≤ length file → is_checked (take width file) ≡ true → turn_of (take width file) % 2 ≡ 0 → is_slot width 0 (take width file) ≡ true
    first_intact width file long checked even =
        let whole : length (take width file) ≡ width = omega (arith, length-take width file, long) in
        and_from _ _ (and_from _ _ (eq-eqb _ _ whole) checked) (eq-eqb _ _ (sym (ap (λ (k : ℕ). width * k) even ∙ omega arith)))
