-- What stands in a file of two slots after a slot was written, be it whole or torn.
use Rattle.std.proofs.Common.{◌≡◌, ◌⊎◌, inl, inr, ⊎_elim, ℕ, ◌+◌, ◌*◌, ◌%◌, ◌^◌, ◌<◌, ◌≤◌, min, false, IsTrue, List, [], ◌++◌, length, take, drop, Some, None, if◌then◌else◌, sym, ◌∙◌, ap, subst, arith, ◌-◌, length-take, length-drop, length-append, append_assoc}
use Rattle.std.proofs.Math.Path.{ap₂}
use Rattle.std.proofs.lemmas.Bool.{cond-true, cond-false, cases_Bool, cases_eq, and_parts, eqb-true, false_from_ne_true}
use Rattle.std.proofs.lemmas.List.{take_all, take_at, drop_all, drop_at}
use Rattle.byteorder.specs.Numbers.{big_from-lt}
use Rattle.crc_frame.specs.declared.slots.Slot.{Slot}
use Rattle.crc_frame.specs.Slots.{place_of, slot_bytes, turn_of, is_slot, is_intact, slot_at, newest_of, newest_slot, KeepsNewest, NewestIs, StandsWhole, NewestSlotStandsWhole, TurnsFit, slot_of, IsSlotOf, next_turn, with_slot, MayHoldSlot, NextSlotIsOldOrNew, NextSlotIsRead, FirstSlotIsNoneOrNew, FirstSlotIsRead}
use Rattle.crc_frame.proofs.Numbers.{IsBytes-drop, IsBytes-take}
use Rattle.crc_frame.proofs.SlotLemmas.{slot_place, torn_slot_is_not_read, next_slot_is_newest, one_of_two}

pub slot_length : (width place : ℕ) (slot : List ℕ) → IsTrue (is_slot width place slot) → length slot ≡ width
unfolding is_slot
slot_length width place slot is = eqb-true _ _ (and_parts _ _ (and_parts _ _ is).0).0

-- ---- the newest slot stands whole

at_place : (width place : ℕ) (file : List ℕ) (s : Slot) → 0 < width → slot_at width place file ≡ Some s → StandsWhole width file s
at_place width place file s some e = elim (cases_Bool (is_intact width place file)) [
  | inl is ↦
      let made : Some (record { turn = turn_of (slot_bytes width place file); place = place }) ≡ Some s = sym (cond-true (is_intact width place file) _ _ is) ∙ e in
      let turn : turn_of (slot_bytes width place file) ≡ s.turn = cc in
      let here : place ≡ s.place = cc in
      let wide : length (slot_bytes width place file) ≡ width = slot_length width place (slot_bytes width place file) is in
      record {
        intact = subst (λ (p : ℕ). IsTrue (is_intact width p file)) here is;
        turn = sym turn ∙ ap (λ (p : ℕ). turn_of (slot_bytes width p file)) here;
        place = sym here ∙ slot_place width place (slot_bytes width place file) is ∙ ap (λ (t : ℕ). place_of width t) turn;
        within = within_file width place s.place file some here wide;
      }
  | inr is_not ↦ let none : None ≡ Some s = sym (cond-false (is_intact width place file) _ _ is_not) ∙ e in cc
]
  where
    within_file : (width place other : ℕ) (file : List ℕ) → 0 < width → place ≡ other → length (slot_bytes width place file) ≡ width → other + width ≤ length file
    within_file width place other file some here wide =
        let room : width ≡ min width (length file - place) = sym wide ∙ length-take width (drop place file) ∙ ap (min width) (length-drop place file) in
        omega (arith, some, room, here)

pub newest_stands_whole : NewestSlotStandsWhole
newest_stands_whole width file newest some is = ⊎_elim (at_place width 0 file newest some) (at_place width width file newest some) (one_of_two (slot_at width 0 file) (slot_at width width file) newest is)

pub turns_fit : TurnsFit
unfolding turn_of
turns_fit width file newest some fit is =
    let s = newest_stands_whole width file newest some is in
    subst (λ (t : ℕ). t < 2 ^ 64) (sym s.turn)
    (big_from-lt 0 8 (drop 2 (slot_bytes width newest.place file)) (IsBytes-drop 2 (slot_bytes width newest.place file) (IsBytes-take width (drop newest.place file) (IsBytes-drop newest.place file fit))))

-- ---- a slot written at the place that the newest leaves free

-- the place of the next turn is the other one
other_place : (width turn : ℕ) → place_of width (next_turn turn) ≡ place_of width (turn + 1)
other_place width turn = let even : (turn + 1) % 2 ^ 64 % 2 ≡ (turn + 1) % 2 = omega arith in ap (λ k. width * k) even

-- the two places, each the other's next
places : (width turn : ℕ) → ((place_of width turn ≡ 0) × (place_of width (turn + 1) ≡ width)) ⊎ ((place_of width turn ≡ width) × (place_of width (turn + 1) ≡ 0))
places width turn = elim (cases_eq (turn % 2) 0) [
  | inl even ↦
      let odd : (turn + 1) % 2 ≡ 1 = omega (arith, even) in
      inl (ap (λ k. width * k) even ∙ omega arith, ap (λ k. width * k) odd ∙ omega arith)
  | inr not_even ↦
      let odd : turn % 2 ≡ 1 = omega (arith, not_even) in
      let even : (turn + 1) % 2 ≡ 0 = omega (arith, odd) in
      inr (ap (λ k. width * k) odd ∙ omega arith, ap (λ k. width * k) even ∙ omega arith)
]

-- a slot that stands at a place is found there
found_there : (width place : ℕ) (slot file : List ℕ) → IsTrue (is_slot width place slot) → slot_bytes width place file ≡ slot → slot_at width place file ≡ Some (record { turn = turn_of slot; place = place })
found_there width place slot file is stands =
    ap (λ (b : List ℕ). if is_slot width place b then Some (record { turn = turn_of b; place = place }) else None) stands
    ∙ cond-true (is_slot width place slot) (Some (record { turn = turn_of slot; place = place })) None is

none_there : (width place : ℕ) (file : List ℕ) → is_intact width place file ≡ false → slot_at width place file ≡ None
none_there width place file is_not = cond-false (is_intact width place file) (Some (record { turn = turn_of (slot_bytes width place file); place = place })) None is_not

same_there : (width place : ℕ) (old new : List ℕ) → slot_bytes width place new ≡ slot_bytes width place old → slot_at width place new ≡ slot_at width place old
same_there width place old new same = ap (λ (b : List ℕ). if is_slot width place b then Some (record { turn = turn_of b; place = place }) else None) same

module _ (width : ℕ) (old bytes slot : List ℕ) (newest : Slot) (wide : 0 < width) (fits : newest.turn < 2 ^ 64) (was : NewestIs width old newest bytes)
    (next : IsSlotOf width (next_turn newest.turn) slot) where
  abbrev place : ℕ
  place = place_of width (next_turn newest.turn)

  slot_long : length slot ≡ width
  slot_long = slot_length width place slot next.intact

  whole : StandsWhole width old newest
  whole = newest_stands_whole width old newest wide was.is

  apart : ((newest.place ≡ 0) × (place ≡ width)) ⊎ ((newest.place ≡ width) × (place ≡ 0))
  apart = ⊎_elim
      (λ one. inl (whole.place ∙ one.0, other_place width newest.turn ∙ one.1))
      (λ other. inr (whole.place ∙ other.0, other_place width newest.turn ∙ other.1))
      (places width newest.turn)

  within : place ≤ length old
  within = ⊎_elim (λ one. omega (arith, whole.within, one.0, one.1)) (λ other. omega (arith, other.1)) apart

  next_is : slot_of width slot ≡ record { turn = turn_of slot; place = place }
  next_is = ap (λ (t : ℕ). record { turn = turn_of slot; place = place_of width t }) next.turn_is

  module _ (new : List ℕ) (torn : MayHoldSlot width place slot old new) where
    newest_stays : slot_bytes width newest.place new ≡ slot_bytes width newest.place old
    newest_stays = ⊎_elim
        (λ one.
        let front : min place (length old) ≡ width = omega (arith, whole.within, one.0, one.1) in
        ap (λ (p : ℕ). slot_bytes width p new) one.0 ∙ subst (λ (n : ℕ). take n new ≡ take n old) front torn.before ∙ ap (λ (p : ℕ). slot_bytes width p old) (sym one.0))
        (λ other.
        let behind : place + width ≡ width = omega (arith, other.1) in
        ap (λ (p : ℕ). slot_bytes width p new) other.0 ∙ ap (take width) (subst (λ (n : ℕ). drop n new ≡ drop n old) behind torn.behind) ∙ ap (λ (p : ℕ). slot_bytes width p old) (sym other.0))
        apart

    keeps : KeepsNewest width old new newest
    keeps = record { was = was.is; same = newest_stays }

    as_before : (slot_at width place new ≡ None) ⊎ (slot_at width place new ≡ slot_at width place old) → NewestIs width new newest bytes
    as_before other = record {
      is = torn_slot_is_not_read width old new newest wide keeps (subst (λ (p : ℕ). (slot_at width p new ≡ None) ⊎ (slot_at width p new ≡ slot_at width p old)) (other_place width newest.turn) other);
      bytes_are = newest_stays ∙ was.bytes_are;
    }

    is_newer_now : slot_bytes width place new ≡ slot → NewestIs width new (slot_of width slot) slot
    is_newer_now stands =
        let found : slot_at width place new ≡ Some (slot_of width slot) = found_there width place slot new next.intact stands ∙ ap (λ (s : Slot). Some s) (sym next_is) in
        record {
          is = next_slot_is_newest width old new newest (slot_of width slot) wide keeps fits next.turn_is (subst (λ (p : ℕ). slot_at width p new ≡ Some (slot_of width slot)) (other_place width newest.turn) found);
          bytes_are = ap (λ (t : ℕ). slot_bytes width (place_of width t) new) next.turn_is ∙ stands;
        }

    old_or_new : NewestIs width new newest bytes ⊎ NewestIs width new (slot_of width slot) slot
    old_or_new = ⊎_elim
        (λ is. ⊎_elim (λ same. inl (as_before (inr (same_there width place old new same)))) (λ written. inr (is_newer_now written)) (torn.there is))
        (λ is_not. inl (as_before (inl (none_there width place new is_not))))
        (cases_Bool (is_intact width place new))

pub next_slot_is_old_or_new : NextSlotIsOldOrNew
next_slot_is_old_or_new width old new bytes slot newest wide fits was next torn = old_or_new width old bytes slot newest wide fits was next new torn

-- ---- a slot written whole

module _ (width place : ℕ) (slot old : List ℕ) (long : length slot ≡ width) (within : place ≤ length old) where
  abbrev written : List ℕ
  written = with_slot place slot old

  front_long : length (take place old) ≡ place
  front_long = omega (arith, length-take place old)

  parts : written ≡ take place old ++ (slot ++ drop (place + length slot) old)
  parts = append_assoc (take place old) slot (drop (place + length slot) old)

  pub stands_there : slot_bytes width place written ≡ slot
  stands_there =
      ap (λ (l : List ℕ). take width (drop place l)) parts ∙ ap (take width) (drop_at (take place old) (slot ++ drop (place + length slot) old) place front_long)
      ∙ take_at slot (drop (place + length slot) old) width long

  length-written : length written ≡ place + width + (length old - (place + width))
  length-written = omega (arith, length-append (take place old ++ slot) (drop (place + length slot) old), length-append (take place old) slot, front_long, long, length-drop (place + length slot) old)

  pub written_whole : MayHoldSlot width place slot old written
  written_whole = record {
    before =
        let all : min place (length old) ≡ place = omega (arith, within) in
        ap (λ (n : ℕ). take n written) all ∙ ap (take place) parts ∙ take_at (take place old) (slot ++ drop (place + length slot) old) place front_long ∙ ap (λ (n : ℕ). take n old) (sym all);
    behind = drop_at (take place old ++ slot) (drop (place + length slot) old) (place + width) (omega (arith, length-append (take place old) slot, front_long, long)) ∙ ap (λ (n : ℕ). drop (place + n) old) long;
    no_longer = omega (arith, length-written);
    there = λ is. inr stands_there;
  }

pub next_slot_is_read : NextSlotIsRead
next_slot_is_read width old bytes slot newest wide fits was next =
    let at = place_of width (next_turn newest.turn) in
    let long = slot_length width at slot next.intact in
    let in_file = within width old bytes slot newest wide fits was next in
    is_newer_now width old bytes slot newest wide fits was next (with_slot at slot old) (written_whole width at slot old long in_file) (stands_there width at slot old long in_file)

-- ---- the first slot

module _ (width : ℕ) (slot : List ℕ) (wide : 0 < width) (first : IsSlotOf width 0 slot) where
  first_intact : IsTrue (is_slot width 0 slot)
  first_intact = let zero : place_of width 0 ≡ 0 = omega arith in subst (λ (p : ℕ). IsTrue (is_slot width p slot)) zero first.intact

  -- nothing stands at the second place of a file that is no longer than a slot
  none_behind : (file : List ℕ) → length file ≤ width → slot_at width width file ≡ None
  none_behind file short =
      let none : slot_bytes width width file ≡ [] = ap (take width) (drop_all width file short) ∙ take_all width [] (omega arith) in
      none_there width width file (false_from_ne_true (is_intact width width file) (λ is.
      let long : length (slot_bytes width width file) ≡ width = slot_length width width (slot_bytes width width file) is in
      omega (arith, wide, long, ap length none)))

  first_is : (file : List ℕ) → length file ≤ width → slot_bytes width 0 file ≡ slot → NewestIs width file (slot_of width slot) slot
  first_is file short stands =
      let place : place_of width (turn_of slot) ≡ 0 = ap (place_of width) first.turn_is ∙ omega arith in
      let found : slot_at width 0 file ≡ Some (slot_of width slot) = found_there width 0 slot file first_intact stands ∙ ap (λ (p : ℕ). Some (record { turn = turn_of slot; place = p })) (sym place) in
      record { is = ap₂ newest_of found (none_behind file short); bytes_are = ap (λ (p : ℕ). slot_bytes width p file) place ∙ stands }

  none_or_first : (old new : List ℕ) → length old ≤ width → newest_slot width old ≡ None → MayHoldSlot width 0 slot old new → (newest_slot width new ≡ None) ⊎ NewestIs width new (slot_of width slot) slot
  none_or_first old new short none torn =
      let new_short : length new ≤ width = omega (arith, torn.no_longer, short) in
      elim (cases_Bool (is_intact width 0 new)) [
        | inr is_not ↦ inl (ap₂ newest_of (none_there width 0 new is_not) (none_behind new new_short))
        | inl is ↦ ⊎_elim
            (λ same. inl (ap₂ newest_of (same_there width 0 old new same) (none_behind new new_short ∙ sym (none_behind old short)) ∙ none))
            (λ written. inr (first_is new new_short written))
            (torn.there is)
      ]

pub first_slot_is_none_or_new : FirstSlotIsNoneOrNew
first_slot_is_none_or_new width old new slot wide short none first torn = none_or_first width slot wide first old new short none torn

pub first_slot_is_read : FirstSlotIsRead
first_slot_is_read width old slot wide short first =
    let long = slot_length width 0 slot (first_intact width slot wide first) in
    first_is width slot wide first (with_slot 0 slot old) (omega (arith, length-written width 0 slot old long (omega arith), short)) (stands_there width 0 slot old long (omega arith))
