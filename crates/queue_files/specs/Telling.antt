-- What a checkpoint tells, as the code has it.
use Rattle.std.specs.Prelude.{ℕ, Result, Ok, Err}
use Rattle.io_traits.specs.declared.pages.PageState.{PageState}
use Rattle.queue_files.specs.Checkpoints.{Mismatch, misfit}
use Rattle.queue_files.specs.declared.checkpoint_state.Differing.{Differing}

-- a checkpoint is damaged at place 0
abbrev pub misfit_of : Differing → Mismatch
misfit_of d = misfit 0 d.found d.expected

-- with the turn of its slot
abbrev pub as_told : Result (ℕ × PageState) Differing → Result PageState Mismatch
as_told (Ok newest) = Ok newest.1
as_told (Err d) = Err (misfit_of d)
