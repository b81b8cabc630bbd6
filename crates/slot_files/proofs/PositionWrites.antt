-- What a position file records after a slot was written into it, be it whole or torn.
use Rattle.std.proofs.Common.{◌≡◌, inl, inr, ⊎_elim, ℕ, ◌<◌, ◌^◌, List, length, ◌∙◌, arith}
use Rattle.std.proofs.Math.Path.{ap₂}
use Rattle.io_traits.specs.Reads.{bytes_of}
use Rattle.crc_frame.specs.Slots.{place_of, with_slot}
use Rattle.io_traits.specs.Images.{FileImage}
use Rattle.io_traits.specs.Moments.{EachMoment, ImagesTell}
use Rattle.io_traits.specs.declared.stores.Store.{Ghosts as StoreWords}
use Rattle.io_traits.proofs.Moments.{weaker}
use Rattle.slot_files.specs.Changes.{Alters}
use Rattle.slot_files.specs.Slots.{OldOrNew, OldOrNewSaid}
use Rattle.slot_files.proofs.Saying.{written_said, said_moments}
use Rattle.slot_files.specs.Positions.{slot_spelling, position_said, damaged_at_first, recorded_in}
use Rattle.slot_files.specs.PositionWrites.{IsNextTurn, OldOrNewPosition}
use Rattle.slot_files.specs.declared.recorded.Recorded.TheVariants.{Nothing, Position}
use Rattle.slot_files.proofs.PositionBytes.{spelling_is_slot, read_position}
use Rattle.slot_files.proofs.PositionReads.{comes_next}

module _ (turn position : ℕ) (turn_fits : turn < 2 ^ 64) (position_fits : position < 2 ^ 64) where
  abbrev slot : List ℕ
  slot = slot_spelling turn position

  slot_says : position_said slot ≡ Position turn position
  slot_says = ap₂ Position (spelling_is_slot turn position turn_fits).turn_is (read_position turn position turn_fits position_fits)

  pub written_records : (old : List ℕ) → IsNextTurn (recorded_in old) turn → recorded_in (with_slot (place_of 24 turn) slot old) ≡ Position turn position
  written_records old comes = written_said position_said damaged_at_first Nothing 24 (omega arith) turn slot (spelling_is_slot turn position turn_fits) old (comes_next old turn comes) ∙ slot_says

  old_or_new : (f g : FileImage) → OldOrNewSaid position_said damaged_at_first Nothing 24 turn (position_said slot) f g → OldOrNewPosition turn position f g
  old_or_new f g leaves file rest is_next chance = ⊎_elim (λ same. inl same) (λ is. inr (is ∙ slot_says)) (leaves file rest (comes_next (bytes_of file) turn is_next) chance)

  -- at each moment of its write
  module _ {S : Type 0} (store : StoreWords S) (tell : ImagesTell store) (name : List ℕ) (old new : S) where
    abbrev Says : FileImage → FileImage → Type 0
    Says = OldOrNewSaid position_said damaged_at_first Nothing 24 turn (position_said slot)

    pub position_moments : (bytes : List ℕ) → length bytes ≡ 24 → bytes ≡ slot → EachMoment store old new (Alters store name (OldOrNew (length bytes) turn bytes) old)
        → EachMoment store old new (Alters store name (OldOrNewPosition turn position) old)
    position_moments bytes long spelled run = weaker store tell old new (Alters store name Says old) (Alters store name (OldOrNewPosition turn position) old)
        (said_moments position_said damaged_at_first Nothing 24 (omega arith) turn slot (spelling_is_slot turn position turn_fits) store tell name old new bytes long spelled run)
        (λ i told a. (a.0, a.1, record { here = old_or_new (a.0 name) (i name) a.2.here; there = a.2.there }))
