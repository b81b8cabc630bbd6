-- What a checkpoint file says of its page: how the page stood when that was recorded, or how the file is damaged (this project's tables).
use Rattle.std.specs.Prelude.{ℕ, ◌+◌, ◌-◌, ◌==◌, nat_lt, List, Option, Some, None, Result, Ok, Err, if◌then◌else◌}
use Rattle.io_traits.specs.Reads.{bytes_of}
use Rattle.io_traits.specs.declared.pages.PageState.{PageState}
use Rattle.slot_files.specs.Checkpoints.{slots_of}
use Rattle.slot_files.specs.declared.checkpoint.Slots.{Slots}

-- where in a file two numbers differ: what stands there, and what ought to
pub record Mismatch : Type 0 where
  pub place : ℕ
  pub found : ℕ
  pub expected : ℕ

abbrev pub misfit : ℕ → ℕ → ℕ → Mismatch
misfit place found expected = record { place = place; found = found; expected = expected }

-- why no slot is intact: the file is too short for one, the checksum of the one at 0 doesn't match, or its turn has the other place
unfoldable pub no_intact_slot : Slots → Mismatch
no_intact_slot s = if nat_lt s.length 48 then misfit 0 s.length 48 else (if s.stored == s.computed then misfit 0 s.turn (s.turn - 1) else misfit 0 s.stored s.computed)

-- The bounds of what is recorded: the page has a number below 2^32 - 1, its least number is at least 1, and its rows have numbers below 2^63 - 1.
unfoldable pub bounded : PageState → Result PageState Mismatch
bounded s =
    if s.page == 0xFFFF_FFFF then Err (misfit 0 s.page 0xFFFF_FFFE)
    else (if s.least == 0 then Err (misfit 0 s.least 1)
    else (if nat_lt 0x7FFF_FFFF_FFFF_FFFF (s.least + s.count) then Err (misfit 0 s.least (0x7FFF_FFFF_FFFF_FFFF - s.count)) else Ok s))

-- of the newest slot
abbrev pub told_by : Slots → Option (ℕ × PageState) → Result PageState Mismatch
told_by slots None = Err (no_intact_slot slots)
told_by slots (Some newest) = if slots.version == 1 then bounded newest.1 else Err (misfit 0 slots.version 1)

abbrev pub told : Option (List ℕ) → Result PageState Mismatch
told file = told_by (slots_of (bytes_of file)) (slots_of (bytes_of file)).newest
