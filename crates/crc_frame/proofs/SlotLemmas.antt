-- The newest of the slots that are intact.
use Rattle.std.proofs.Common.{◌≡◌, ◌≢◌, ℕ, ◌+◌, ◌*◌, ◌%◌, ◌^◌, ◌<◌, Bool, true, false, IsTrue, List, Option, Some, None, IfSome, IfNone, if◌then◌else◌, ◌⊎◌, inl, inr, refl, sym, ap, subst, ◌∙◌, arith}
use Rattle.std.proofs.Math.Path.{ap₂}
use Rattle.std.proofs.lemmas.Bool.{cases_Bool, cases_eq, and_parts, eqb-true, cond-true, cond-false, false≢true}
use Rattle.std.proofs.lemmas.Bool.Decides.{nat_tests}
use Rattle.std.proofs.lemmas.Nat.{mod_below}
use Rattle.crc_frame.specs.declared.slots.Slot.{Slot}
use Rattle.crc_frame.specs.Slots.{place_of, slot_bytes, turn_of, is_slot, is_intact, slot_at, is_newer, newest_of, newest_slot, next_place, KeepsNewest, TornSlotIsNotRead, NextSlotIsNewest}

-- the place of a slot is that of its turn
pub slot_place : (width place : ℕ) (slot : List ℕ) → IsTrue (is_slot width place slot) → place ≡ place_of width (turn_of slot)
unfolding is_slot
slot_place width place slot is = eqb-true _ _ (and_parts _ _ is).1

-- so there are two places
two_places : (width place : ℕ) (slot : List ℕ) → IsTrue (is_slot width place slot) → (place ≡ 0) ⊎ (place ≡ width)
two_places width place slot is =
    let turn = turn_of slot in
    let small : turn % 2 < 2 = mod_below turn 2 (omega arith) in
    elim (cases_eq (turn % 2) 0) [
      | inl even ↦ inl (slot_place width place slot is ∙ ap (λ (k : ℕ). width * k) even ∙ omega arith)
      | inr odd ↦
          let one : turn % 2 ≡ 1 = omega (arith, small, odd) in
          inr (slot_place width place slot is ∙ ap (λ (k : ℕ). width * k) one ∙ omega arith)
    ]

-- the turns of the slots at the two places differ
turns_differ : (width : ℕ) (first second : List ℕ) → 0 < width → IsTrue (is_slot width 0 first) → IsTrue (is_slot width width second) → turn_of first ≡ turn_of second → ⊥
turns_differ width first second wide is_first is_second same =
    let at_first = slot_place width 0 first is_first in
    let at_second = slot_place width width second is_second in
    let moved : width ≡ 0 = at_second ∙ ap (λ (turn : ℕ). place_of width turn) (sym same) ∙ sym at_first in
    omega (arith, wide, moved)

-- one of two turns is newer
newer_other : (turn other : ℕ) → (turn ≡ other → ⊥) → is_newer other turn ≡ false → is_newer turn other ≡ true
unfolding is_newer
newer_other turn other differ not_newer = grind (arith, nat_tests)

-- which of two slots is taken
abbrev Taken : Bool → Bool → Slot → Slot → Slot → Type 0
Taken i k a b s =
    ((i ≡ true) × (s ≡ a) × ((k ≡ false) ⊎ (is_newer b.turn a.turn ≡ false)))
    ⊎ ((k ≡ true) × (s ≡ b) × ((i ≡ false) ⊎ (is_newer b.turn a.turn ≡ true)))

taken : (i k : Bool) (a b s : Slot) → Some s ≡ newest_of (if i then Some a else None) (if k then Some b else None) → Taken i k a b s
taken true true a b s e = elim (cases_Bool (is_newer b.turn a.turn)) [
  | inl newer ↦
      let is : Some s ≡ Some b = e ∙ cond-true (is_newer b.turn a.turn) (Some b) (Some a) newer in
      inr (refl, cc, inr newer)
  | inr older ↦
      let is : Some s ≡ Some a = e ∙ cond-false (is_newer b.turn a.turn) (Some b) (Some a) older in
      inl (refl, cc, inr older)
]
taken true false a b s e = inl (refl, cc, inl refl)
taken false true a b s e = inr (refl, cc, inl refl)
taken false false a b s e = cc

none_taken : (i k : Bool) (a b : Slot) → None ≡ newest_of (if i then Some a else None) (if k then Some b else None) → (i ≡ false) × (k ≡ false)
none_taken true true a b e = elim (cases_Bool (is_newer b.turn a.turn)) [
  | inl newer ↦ let is : None ≡ Some b = e ∙ cond-true (is_newer b.turn a.turn) (Some b) (Some a) newer in cc
  | inr older ↦ let is : None ≡ Some a = e ∙ cond-false (is_newer b.turn a.turn) (Some b) (Some a) older in cc
]
none_taken true false a b e = cc
none_taken false true a b e = cc
none_taken false false a b e = (refl, refl)

module _ (width : ℕ) (file : List ℕ) (wide : 0 < width) where
  abbrev turn_at : ℕ → ℕ
  turn_at place = turn_of (slot_bytes width place file)

  abbrev slot_from : ℕ → Slot
  slot_from place = record { turn = turn_of (slot_bytes width place file); place = place }

  pub none_intact : (o : Option Slot) → o ≡ newest_slot width file → IfNone o ((place : ℕ) → is_intact width place file ≡ false)
  none_intact (Some s) e = tt
  none_intact None e = λ place.
      let none = none_taken (is_intact width 0 file) (is_intact width width file) (slot_from 0) (slot_from width) e in
      elim (cases_Bool (is_intact width place file)) [
        | inl is ↦ elim (two_places width place (slot_bytes width place file) is) [
          | inl first ↦ ap (λ (p : ℕ). is_intact width p file) first ∙ none.0
          | inr second ↦ ap (λ (p : ℕ). is_intact width p file) second ∙ none.1
        ]
        | inr is_not ↦ is_not
      ]

  abbrev pub NewerThanOthers : Slot → Type 0
  NewerThanOthers s = (place : ℕ) → IsTrue (is_intact width place file) → place ≢ s.place → IsTrue (is_newer s.turn (turn_of (slot_bytes width place file)))

  pub newest_newer : (o : Option Slot) → o ≡ newest_slot width file → IfSome o NewerThanOthers
  newest_newer None e = tt
  newest_newer (Some s) e = λ place is apart.
      let i = is_intact width 0 file in
      let k = is_intact width width file in
      let differ : i ≡ true → k ≡ true → turn_at 0 ≡ turn_at width → ⊥ = turns_differ width (slot_bytes width 0 file) (slot_bytes width width file) wide in
      let at : (p : ℕ) → place ≡ p → is_intact width p file ≡ true = λ p here. subst (λ (q : ℕ). is_intact width q file ≡ true) here is in
      let newer_than : (p : ℕ) → place ≡ p → is_newer s.turn (turn_at p) ≡ true → is_newer s.turn (turn_at place) ≡ true = λ p here newer.
      ap (λ (q : ℕ). is_newer s.turn (turn_at q)) here ∙ newer in
      elim (taken i k (slot_from 0) (slot_from width) s e) [
        | inl first ↦ elim (two_places width place (slot_bytes width place file) is) [
          | inl here ↦ absurd (apart (here ∙ ap (λ (t : Slot). t.place) (sym first.1)))
          | inr there ↦ newer_than width there (ap (λ (t : Slot). is_newer t.turn (turn_at width)) first.1 ∙ elim first.2 [
            | inl not_there ↦ absurd (false≢true (sym not_there ∙ at width there))
            | inr older ↦ newer_other (turn_at 0) (turn_at width) (differ first.0 (at width there)) older
          ])
        ]
        | inr second ↦ elim (two_places width place (slot_bytes width place file) is) [
          | inl there ↦ newer_than 0 there (ap (λ (t : Slot). is_newer t.turn (turn_at 0)) second.1 ∙ elim second.2 [
            | inl not_there ↦ absurd (false≢true (sym not_there ∙ at 0 there))
            | inr newer ↦ newer
          ])
          | inr here ↦ absurd (apart (here ∙ ap (λ (t : Slot). t.place) (sym second.1)))
        ]
      ]

-- ---- laws

-- the slot at a place, from the bytes there
same_slot : (width place : ℕ) (old new : List ℕ) → slot_bytes width place new ≡ slot_bytes width place old → slot_at width place new ≡ slot_at width place old
same_slot width place old new same =
    ap (λ (slot : List ℕ). if is_slot width place slot then Some (record { turn = turn_of slot; place = place }) else None) same

-- what is known of a slot that was found
record Found (width place : ℕ) (file : List ℕ) (s : Slot) : Type 0 where
  at : slot_at width place file ≡ Some s
  here : s.place ≡ place
  parity : place ≡ place_of width s.turn

found : (width place : ℕ) (file : List ℕ) (s : Slot) → slot_at width place file ≡ Some s → Found width place file s
found width place file s e = elim (cases_Bool (is_intact width place file)) [
  | inl is ↦
      let made : Some (record { turn = turn_of (slot_bytes width place file); place = place }) ≡ Some s = sym (cond-true (is_intact width place file) _ _ is) ∙ e in
      let turn : turn_of (slot_bytes width place file) ≡ s.turn = cc in
      let here : place ≡ s.place = cc in
      record { at = e; here = sym here; parity = slot_place width place (slot_bytes width place file) is ∙ ap (λ (t : ℕ). place_of width t) turn }
  | inr is_not ↦ let none : None ≡ Some s = sym (cond-false (is_intact width place file) _ _ is_not) ∙ e in cc
]

-- the newest slot is one of the two
pub one_of_two : (a b : Option Slot) (s : Slot) → newest_of a b ≡ Some s → (a ≡ Some s) ⊎ (b ≡ Some s)
one_of_two None b s e = inr e
one_of_two (Some x) None s e = inl e
one_of_two (Some x) (Some y) s e = elim (cases_Bool (is_newer y.turn x.turn)) [
  | inl newer ↦ inr (sym (cond-true (is_newer y.turn x.turn) (Some y) (Some x) newer) ∙ e)
  | inr older ↦ inl (sym (cond-false (is_newer y.turn x.turn) (Some y) (Some x) older) ∙ e)
]

next_newer : (turn : ℕ) → turn < 2 ^ 64 → is_newer ((turn + 1) % 2 ^ 64) turn ≡ true
unfolding is_newer
next_newer turn fits = grind (arith, nat_tests)

next_older : (turn : ℕ) → turn < 2 ^ 64 → is_newer turn ((turn + 1) % 2 ^ 64) ≡ false
unfolding is_newer
next_older turn fits = grind (arith, nat_tests)

-- the other place, after each of the two
other_place_first : (width turn : ℕ) → 0 < width → 0 ≡ place_of width turn → place_of width (turn + 1) ≡ width
other_place_first width turn wide even = elim (cases_eq (turn % 2) 0) [
  | inl is_even ↦
      let one : (turn + 1) % 2 ≡ 1 = omega (arith, is_even) in
      ap (λ (k : ℕ). width * k) one ∙ omega arith
  | inr is_odd ↦
      let one : turn % 2 ≡ 1 = omega (arith, is_odd) in
      let none : 0 ≡ width * 1 = even ∙ ap (λ (k : ℕ). width * k) one in
      absurd (omega (arith, wide, none))
]

other_place_second : (width turn : ℕ) → 0 < width → width ≡ place_of width turn → place_of width (turn + 1) ≡ 0
other_place_second width turn wide odd = elim (cases_eq (turn % 2) 0) [
  | inl is_even ↦
      let none : width ≡ width * 0 = odd ∙ ap (λ (k : ℕ). width * k) is_even in
      absurd (omega (arith, wide, none))
  | inr is_odd ↦
      let even : (turn + 1) % 2 ≡ 0 = omega (arith, is_odd) in
      ap (λ (k : ℕ). width * k) even ∙ omega arith
]

module _ (width : ℕ) (old new : List ℕ) (newest : Slot) (wide : 0 < width) (keeps : KeepsNewest width old new newest) where
  -- the newest slot is found again
  stays : (place : ℕ) → Found width place old newest → slot_at width place new ≡ Some newest
  stays place was =
      same_slot width place old new (subst (λ (p : ℕ). slot_bytes width p new ≡ slot_bytes width p old) was.here keeps.same) ∙ was.at

  first_or_second : Found width 0 old newest ⊎ Found width width old newest
  first_or_second = elim (one_of_two (slot_at width 0 old) (slot_at width width old) newest keeps.was) [
    | inl first ↦ inl (found width 0 old newest first)
    | inr second ↦ inr (found width width old newest second)
  ]

  abbrev IsTorn : ℕ → Type 0
  IsTorn place = (slot_at width place new ≡ None) ⊎ (slot_at width place new ≡ slot_at width place old)

  torn_second : Found width 0 old newest → IsTorn width → newest_slot width new ≡ Some newest
  torn_second was (inl none) = ap₂ newest_of (stays 0 was) none
  torn_second was (inr kept) = ap₂ newest_of (stays 0 was ∙ sym was.at) kept ∙ keeps.was

  torn_first : Found width width old newest → IsTorn 0 → newest_slot width new ≡ Some newest
  torn_first was (inl none) = ap₂ newest_of none (stays width was)
  torn_first was (inr kept) = ap₂ newest_of kept (stays width was ∙ sym was.at) ∙ keeps.was

  torn_other : IsTorn (next_place width newest) → newest_slot width new ≡ Some newest
  torn_other torn = elim first_or_second [
    | inl first ↦ torn_second first (subst IsTorn (other_place_first width newest.turn wide first.parity) torn)
    | inr second ↦ torn_first second (subst IsTorn (other_place_second width newest.turn wide second.parity) torn)
  ]

  written_other : (next : Slot) → newest.turn < 2 ^ 64 → next.turn ≡ (newest.turn + 1) % 2 ^ 64 → slot_at width (next_place width newest) new ≡ Some next
      → newest_slot width new ≡ Some next
  written_other next fits turn written =
      let newer : is_newer next.turn newest.turn ≡ true = ap (λ (t : ℕ). is_newer t newest.turn) turn ∙ next_newer newest.turn fits in
      let older : is_newer newest.turn next.turn ≡ false = ap (λ (t : ℕ). is_newer newest.turn t) turn ∙ next_older newest.turn fits in
      let at : (place : ℕ) → next_place width newest ≡ place → slot_at width place new ≡ Some next = λ place is.
      subst (λ (p : ℕ). slot_at width p new ≡ Some next) is written in
      elim first_or_second [
        | inl first ↦
            ap₂ newest_of (stays 0 first) (at width (other_place_first width newest.turn wide first.parity))
            ∙ cond-true (is_newer next.turn newest.turn) (Some next) (Some newest) newer
        | inr second ↦
            ap₂ newest_of (at 0 (other_place_second width newest.turn wide second.parity)) (stays width second)
            ∙ cond-false (is_newer newest.turn next.turn) (Some newest) (Some next) older
      ]

pub torn_slot_is_not_read : TornSlotIsNotRead
torn_slot_is_not_read width old new newest wide keeps torn = torn_other width old new newest wide keeps torn

pub next_slot_is_newest : NextSlotIsNewest
next_slot_is_newest width old new newest next wide keeps fits turn written = written_other width old new newest wide keeps next fits turn written
