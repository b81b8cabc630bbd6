-- What a file says after a slot was written into it, be it whole or torn.
use Rattle.std.proofs.Common.{◌≡◌, inl, inr, ⊎_elim, List, ℕ, Option, Some, option_map, sym, ap, ◌∙◌, arith}
use Rattle.std.proofs.Math.Path.{ap₂}
use Rattle.io_traits.specs.Reads.{bytes_of}
use Rattle.crc_frame.specs.Slots.{place_of, is_slot, turn_of, with_slot, IsSlotOf, MayHoldSlot}
use Rattle.io_traits.specs.Images.{FileImage, TornFile, at_rest}
use Rattle.io_traits.specs.Chance.{NoChance}
use Rattle.io_traits.specs.Tails.{passes}
use Rattle.io_traits.specs.declared.stores.Store.{Ghosts as StoreWords}
use Rattle.io_traits.proofs.Moments.{by_call}
use Rattle.io_traits.proofs.TailRuns.{Changes}
use Rattle.io_traits.specs.declared.pages.PageState.{PageState}
use Rattle.slot_files.specs.Slots.{newest_bytes}
use Rattle.slot_files.specs.Checkpoints.{slot_spelling, FitsSlot, says, newest_in}
use Rattle.slot_files.specs.CheckpointWrites.{ComesNext, SaysOldOrNew, LeavesOldOrNew}
use Rattle.slot_files.proofs.NewestSlots as newest
use Rattle.slot_files.proofs.CheckpointBytes.{spelling_is_slot, read_state}
use Rattle.slot_files.proofs.CheckpointReads.{newest_by, comes_next}

module _ (turn : ℕ) (s : PageState) (fits : FitsSlot turn s) where
  abbrev slot : List ℕ
  slot = slot_spelling turn s

  is_slot_of : IsSlotOf 48 turn slot
  is_slot_of = spelling_is_slot turn s fits.turn_fits

  -- a file whose newest slot this is
  new_says : (file : List ℕ) → newest_bytes 48 file ≡ Some slot → newest_in file ≡ Some (turn, s)
  new_says file is =
      newest_by file ∙ ap (option_map (λ (b : List ℕ). (turn_of b, says b))) is ∙ ap Some (ap₂ (λ (t : ℕ) (x : PageState). (t, x)) is_slot_of.turn_is (read_state turn s fits))

  pub written_says : (old : List ℕ) → ComesNext old turn → newest_in (with_slot (place_of 48 turn) slot old) ≡ Some (turn, s)
  written_says old comes = new_says _ (newest.written_newest 48 turn slot (omega arith) is_slot_of old (comes_next old turn comes))

  pub may_hold : (slots : Option (List ℕ)) (f : FileImage) → TornFile (place_of 48 turn) slot (at_rest slots) f → NoChance (passes (is_slot 48)) f → MayHoldSlot 48 (place_of 48 turn) slot (bytes_of slots) (bytes_of f.file)
  may_hold = newest.may_hold 48 turn slot (omega arith) is_slot_of

  -- a stop at any moment of the write
  module _ {S : Type 0} (store : StoreWords S) (name : List ℕ) (old new : S) (change : Changes store old new name (TornFile (place_of 48 turn) slot)) where
    pub leaves_old_or_new : LeavesOldOrNew store name turn s old new
    leaves_old_or_new slots rest comes = by_call store old new (λ i. NoChance (passes (is_slot 48)) (i name) → SaysOldOrNew name slots turn s i) change.time
        (λ i left chance. inl (ap (λ (f : FileImage). newest_in (bytes_of f.file)) (rest i left)))
        (λ i left chance.
        let d = change.images i left in
        let has = newest.torn_old_or_new 48 turn slot (omega arith) is_slot_of (d.0 name) (i name) d.2.here slots (rest d.0 d.1) (comes_next (bytes_of slots) turn comes) chance in
        ⊎_elim
        (λ same. inl (newest_by (bytes_of (i name).file) ∙ ap (option_map (λ (b : List ℕ). (turn_of b, says b))) same ∙ sym (newest_by (bytes_of slots))))
        (λ is. inr (new_says (bytes_of (i name).file) is))
        has.newest)
