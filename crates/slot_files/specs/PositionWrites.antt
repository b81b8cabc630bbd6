-- A slot that is written into a position file: when its turn comes, and what a stop leaves.
use Rattle.std.specs.Prelude.{◌≡◌, ◌⊎◌, ◌<◌, ◌^◌, ℕ, List, Option}
use Rattle.io_traits.specs.Reads.{bytes_of}
use Rattle.crc_frame.specs.Slots.{is_slot, next_turn}
use Rattle.io_traits.specs.Images.{FileImage, at_rest}
use Rattle.io_traits.specs.Chance.{NoChance}
use Rattle.io_traits.specs.Tails.{passes}
use Rattle.slot_files.specs.Positions.{recorded_in}
use Rattle.slot_files.specs.declared.recorded.Recorded.{Recorded}
use Rattle.slot_files.specs.declared.recorded.Recorded.TheVariants.{Nothing, Position, Damaged}

-- a turn comes next: 0 where nothing is recorded, else that behind the newest; none in a damaged file
abbrev pub IsNextTurn : Recorded → ℕ → Type 0
IsNextTurn Nothing turn = turn ≡ 0
IsNextTurn (Position last position) turn = (last < 2 ^ 64) × (turn ≡ next_turn last)
IsNextTurn (Damaged found expected) turn = ⊥

-- a slot of the next turn that is written into a file at rest leaves recorded what was, or this, if no slot stands by chance
abbrev pub OldOrNewPosition : ℕ → ℕ → FileImage → FileImage → Type 0
OldOrNewPosition turn position old new =
    (file : Option (List ℕ)) → old ≡ at_rest file → IsNextTurn (recorded_in (bytes_of file)) turn → NoChance (passes (is_slot 24)) new
    → (recorded_in (bytes_of new.file) ≡ recorded_in (bytes_of file)) ⊎ (recorded_in (bytes_of new.file) ≡ Position turn position)
