-- The images that a store in memory gives of a moment.
use Rattle.std.specs.Prelude.{◌≡◌, ◌⊎◌, ◌≤◌, ℕ, ◌+◌, List, ◌∷◌, nat_eq, take, length, if◌then◌else◌}
use Rattle.io_traits.specs.Steps.{Step, synced, held}
use Rattle.io_traits.specs.Leftovers.{Fate, kept, lost, torn, stale, step_left, left_by}
use Rattle.store_memory.specs.Calls.{steps_of}
use Rattle.io_memory.specs.Tables.{Table, content_of}
use Rattle.store_memory.specs.declared.calls.Logged.{Logged}
use Rattle.store_memory.specs.declared.leftovers.Left.{Left}
use Rattle.store_memory.specs.declared.leftovers.Left.TheVariants.{Kept, Lost, Torn, Stale}

-- what becomes of a change
abbrev pub fate_of : Left → Fate
fate_of Kept = kept
fate_of Lost = lost
fate_of Torn = torn
fate_of Stale = stale

-- by the number of a choice: what becomes of the change of the number n among `count` calls. All is kept; nothing is kept since the last sync; all but the last call is kept, which is torn; all is stale
abbrev pub left_at : ℕ → ℕ → ℕ → Left
left_at choice count n = if nat_eq choice 0 then Kept else if nat_eq choice 1 then Lost else if nat_eq choice 2 then (if nat_eq (n + 1) count then Torn else Kept) else Stale

abbrev pub fates_by : ℕ → ℕ → ℕ → Fate
fates_by choice count n = fate_of (left_at choice count n)

-- a table has what reads give after these calls
pub record IsHeld (base : Table) (calls : List Logged) (files : Table) : Type 0 where
  pub each : (n : List ℕ) → content_of files n ≡ held (content_of base) (steps_of calls) n

-- a table has what a choice leaves of a store that held `base` at first, after these calls
pub record IsLeftAfter (choice : ℕ) (base : Table) (calls : List Logged) (files : Table) : Type 0 where
  pub each : (n : List ℕ) → content_of files n ≡ left_by (fates_by choice (length calls)) (content_of base) (steps_of calls) n

-- so many of the calls are settled: behind a sync, or none
pub record IsSettled (calls : List Logged) (count : ℕ) : Type 0 where
  pub within : count ≤ length calls
  pub sync : (count ≡ 0) ⊎ ((earlier : List Step) × (steps_of (take count calls) ≡ synced ∷ earlier))

-- what a step leaves of a table, where reads gave `before`
pub record LeftBy (fate : Fate) (before : Table) (step : Step) (old new : Table) : Type 0 where
  pub each : (n : List ℕ) → content_of new n ≡ step_left fate (content_of before) step n (content_of old n)
