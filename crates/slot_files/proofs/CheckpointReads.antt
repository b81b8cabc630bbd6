-- What a checkpoint file says.
use Rattle.std.proofs.Common.{◌≡◌, inl, inr, ℕ, ◌-◌, nat_lt, true, false, List, length, take, drop, Option, Some, None, option_map, unwrap_or, refl, sym, ap, ◌∙◌, arith, subst, length-take, take-take}
use Rattle.std.proofs.Math.Path.{ap₂}
use Rattle.std.proofs.lemmas.Bool.{cond-true, cond-false, cases_Bool}
use Rattle.std.proofs.lemmas.Bool.Decides.{nat_tests}
use Rattle.std.proofs.lemmas.Option.{none-some, some_pair_parts}
use Rattle.io_traits.specs.Reads.{bytes_of}
use Rattle.crc_frame.specs.declared.slots.Slot.{Slot}
use Rattle.crc_frame.specs.Slots.{slot_bytes, turn_of, newest_slot, next_turn, NewestIs}
use Rattle.crc_frame.specs.Crc.{crc32}
use Rattle.byteorder.specs.Endian.{big_number}
use Rattle.crc_frame.proofs.TornSlots.{newest_stands_whole}
use Rattle.io_traits.specs.declared.pages.PageState.{PageState}
use Rattle.slot_files.specs.Slots as slots
use Rattle.slot_files.specs.Slots.{newest_bytes}
use Rattle.slot_files.specs.Checkpoints.{says, said_at, newest_in, version_at, version_of, at_first, stored_crc, computed_crc, slots_within, slots_of, MisplacedTurnIsOdd}
use Rattle.slot_files.specs.CheckpointWrites.{ComesNext, first, next}
use Rattle.slot_files.proofs.NewestSlots.{Within, found_within as slot_within, newest_is, no_slot as no_newest, front_says as bytes_in_front, misplaced_turn_is_odd as misplaced_is_odd}
use Rattle.slot_files.proofs.Saying.{same_crc}

-- ---- the newest slot

pub found_within : (front : List ℕ) (slot : Slot) → newest_slot 48 front ≡ Some slot → Within 48 front slot
found_within front slot is = slot_within 48 front slot (omega arith) is

-- what the newest slot says
pub newest_says : (file : List ℕ) (newest : Slot) (bytes : List ℕ) → NewestIs 48 file newest bytes → newest_in file ≡ Some (newest.turn, says bytes)
newest_says file newest bytes was = ap (option_map (λ (s : Slot). (s.turn, says (slot_bytes 48 s.place file)))) was.is ∙ ap (λ b. Some (newest.turn, says b)) was.bytes_are

-- the slot that says this
pub record Sayer (file : List ℕ) (turn : ℕ) (s : PageState) : Type 0 where
  pub newest : Slot
  pub bytes : List ℕ
  pub is : NewestIs 48 file newest bytes
  pub turn_is : newest.turn ≡ turn
  pub says_it : says bytes ≡ s

sayer_of : (file : List ℕ) (turn : ℕ) (s : PageState) (found : Option Slot) → newest_slot 48 file ≡ found → newest_in file ≡ Some (turn, s) → Sayer file turn s
sayer_of file turn s None is said = absurd (none-some (turn, s) (sym (ap (option_map (said_at file)) is) ∙ said))
sayer_of file turn s (Some newest) is said =
    let bytes = slot_bytes 48 newest.place file in
    let same = some_pair_parts newest.turn turn (says bytes) s (sym (ap (option_map (said_at file)) is) ∙ said) in
    record { newest = newest; bytes = bytes; is = record { is = is; bytes_are = refl }; turn_is = same.0; says_it = same.1 }

pub sayer : (file : List ℕ) (turn : ℕ) (s : PageState) → newest_in file ≡ Some (turn, s) → Sayer file turn s
sayer file turn s said = sayer_of file turn s (newest_slot 48 file) refl said

-- by the bytes of that slot
said_by : (file : List ℕ) (found : Option Slot) → newest_slot 48 file ≡ found
    → option_map (said_at file) found ≡ option_map (λ (b : List ℕ). (turn_of b, says b)) (option_map (λ (s : Slot). slot_bytes 48 s.place file) found)
said_by file None is = refl
said_by file (Some slot) is = ap (λ (t : ℕ). Some (t, says (slot_bytes 48 slot.place file))) (newest_stands_whole 48 file slot (omega arith) is).turn

pub newest_by : (file : List ℕ) → newest_in file ≡ option_map (λ (b : List ℕ). (turn_of b, says b)) (newest_bytes 48 file)
newest_by file = said_by file (newest_slot 48 file) refl

version_by : (file : List ℕ) (found : Option Slot) → version_at file found ≡ unwrap_or (option_map version_of (option_map (λ (s : Slot). slot_bytes 48 s.place file) found)) 0
version_by file None = refl
version_by file (Some slot) = refl

no_bytes : (file : List ℕ) (found : Option (List ℕ)) → newest_bytes 48 file ≡ found → newest_in file ≡ None → newest_bytes 48 file ≡ None
no_bytes file None is said = is
no_bytes file (Some b) is said = absurd (none-some (turn_of b, says b) (sym said ∙ newest_by file ∙ ap (option_map (λ (b : List ℕ). (turn_of b, says b))) is))

pub no_slot : (file : List ℕ) → newest_in file ≡ None → newest_slot 48 file ≡ None
no_slot file said = no_newest 48 file (no_bytes file (newest_bytes 48 file) refl said)

pub none_said : (file : List ℕ) → newest_slot 48 file ≡ None → newest_in file ≡ None
none_said file is = ap (option_map (said_at file)) is

-- the turn that comes next
pub comes_next : (file : List ℕ) (turn : ℕ) → ComesNext file turn → slots.ComesNext 48 file turn
comes_next file turn (first none short zero) = slots.first (no_bytes file (newest_bytes 48 file) refl none) short zero
comes_next file turn (next last s said fits turn_is) =
    let w = sayer file last s said in
    let of_bytes : turn_of w.bytes ≡ last = sym (ap turn_of w.is.bytes_are) ∙ sym (newest_stands_whole 48 file w.newest (omega arith) w.is.is).turn ∙ w.turn_is in
    slots.next w.bytes (newest_is 48 file w.newest w.bytes w.is) (omega (arith, of_bytes, fits)) (turn_is ∙ ap next_turn (sym of_bytes))

-- ---- the front of a file is enough

first_in_front : (tells : List ℕ → ℕ) (file : List ℕ) → at_first tells (take 96 file) ≡ at_first tells file
first_in_front tells file = elim (cases_Bool (nat_lt (length file) 48)) [
  | inl short ↦
      let shorter : nat_lt (length (take 96 file)) 48 ≡ true = grind (arith, nat_tests, short, length-take 96 file) in
      cond-true _ _ _ shorter ∙ sym (cond-true _ _ _ short)
  | inr long ↦
      let longer : nat_lt (length (take 96 file)) 48 ≡ false = grind (arith, nat_tests, long, length-take 96 file) in
      cond-false _ _ _ longer ∙ ap tells (take-take 48 96 file (omega arith)) ∙ sym (cond-false _ _ _ long)
]

pub front_says : (file : List ℕ) → slots_within (take 96 file) (length file) ≡ slots_of file
front_says file =
    let front = take 96 file in
    let same = bytes_in_front 48 file (omega arith) in
    let newest = newest_by front ∙ ap (option_map (λ (b : List ℕ). (turn_of b, says b))) same ∙ sym (newest_by file) in
    let version = version_by front (newest_slot 48 front) ∙ ap (λ b. unwrap_or (option_map version_of b) 0) same ∙ sym (version_by file (newest_slot 48 file)) in
    let stored = first_in_front stored_crc file in
    let computed = first_in_front computed_crc file in
    let turn = first_in_front turn_of file in
    λ i. record { newest = newest i; version = version i; length = length file; stored = stored i; computed = computed i; turn = turn i }

-- what two reads of a file give
pub read_says : (file : Option (List ℕ)) (front : List ℕ) (len : Option ℕ) → len ≡ option_map length file → front ≡ take 96 (bytes_of file) → slots_within front (unwrap_or len 0) ≡ slots_of (bytes_of file)
read_says None front len len_is front_is = ap₂ slots_within front_is (ap (λ l. unwrap_or l 0) len_is) ∙ front_says (bytes_of None)
read_says (Some bytes) front len len_is front_is = ap₂ slots_within front_is (ap (λ l. unwrap_or l 0) len_is) ∙ front_says bytes

-- ---- a slot of which only the place is wrong

pub misplaced_turn_is_odd : MisplacedTurnIsOdd
unfolding stored_crc computed_crc
misplaced_turn_is_odd file said long same =
    let slot = take 48 file in
    let whole : 48 ≡ length slot = omega (arith, length-take 48 file, long) in
    let checked = same_crc slot (subst (λ (n : ℕ). big_number 4 (drop (n - 4) slot) ≡ crc32 (take (n - 4) slot)) whole same) in
    misplaced_is_odd 48 file (omega arith) long (no_bytes file (newest_bytes 48 file) refl said) checked
