-- What the calls of a log make of a store.
use Rattle.std.specs.Prelude.{◌≡◌, ℕ, List, map, reverse, if◌then◌else◌}
use Rattle.io_memory.specs.Tables.{Table, content_of}
use Rattle.io_traits.specs.Steps.{Step, applied, appended, wrote, shortened, removed, synced, nothing}
use Rattle.store_memory.specs.declared.calls.Logged.{Logged}
use Rattle.store_memory.specs.declared.calls.StoreCall.{StoreCall}
use Rattle.store_memory.specs.declared.calls.StoreCall.TheVariants.{Length, Read, Append, WriteAt, Cut, Remove, Sync}
use Rattle.store_memory.specs.declared.calls.StoreCall.TheVariants.{List as Listing}

-- the step of a call that did its work
abbrev pub step_of : StoreCall → Step
step_of (Listing folder) = nothing
step_of (Length name) = nothing
step_of (Read name at) = nothing
step_of (Append name bytes) = appended name bytes
step_of (WriteAt name at bytes) = wrote name at bytes
step_of (Cut name len) = shortened name len
step_of (Remove name) = removed name
step_of Sync = synced

-- a call that failed made no step
abbrev pub step_in : Logged → Step
step_in logged = if logged.worked then step_of logged.call else nothing

-- the steps of a log, the newest first
abbrev pub steps_of : List Logged → List Step
steps_of calls = reverse (map step_in calls)

-- a step was made
pub record Applied (step : Step) (old new : Table) : Type 0 where
  pub each : (n : List ℕ) → content_of new n ≡ applied step n (content_of old n)
