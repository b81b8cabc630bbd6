-- A shop of workers in threads: its jobs, and the results that it gives in the end.
use Rattle.std.specs.Prelude.{ℕ, ◌+◌, List, [], ◌∷◌, ◌<◌, ◌≡◌, ◌==◌, Bool, false, flat_map, fold, length, reverse}
use Rattle.std.specs.List.{AllZip}
use Rattle.std.specs.Prelude.{slice_index_or}
use Rattle.batch_shop.specs.Desks.{is_out, job_out, looks}
use Rattle.batch_shop.specs.declared.worker_slot.WorkerSlot.{WorkerSlot}
use Rattle.batch_shop.specs.declared.thread_shop.ThreadShop.{ThreadShop}

module _ {T D : Type 0} where
  -- the jobs that are out, in the order of the workers
  abbrev pub jobs_of : ThreadShop T D → List T
  jobs_of s = flat_map job_out s.desks.items

  -- how many workers were started
  abbrev pub started_of : ThreadShop T D → ℕ
  started_of s = length s.desks.items

  -- the last worker that was hired has no job out; false where there is none
  abbrev pub last_is_idle : ThreadShop T D → Bool
  last_is_idle s = fold (λ _ d. length (job_out d) == 0) false s.desks.items

  unfoldable pub all_looks : List (WorkerSlot T D) → ℕ
  all_looks [] = 0
  all_looks (d ∷ ds) = looks d + all_looks ds

  -- how many looks found a job that was not done
  abbrev pub looks_of : ThreadShop T D → ℕ
  looks_of s = all_looks s.desks.items

  -- a result for each job, and no other; the last worker's first
  abbrev pub AreResults : (T → D → Type 0) → List T → List D → Type 0
  AreResults gives jobs dones = AllZip gives (reverse jobs) dones

  -- the desk at this place has no job out
  abbrev pub IsFree : List (WorkerSlot T D) → ℕ → Type 0
  IsFree ds at = (at < length ds) × ((d : WorkerSlot T D) → (is_out (slice_index_or ds at d) ≡ false) × (job_out (slice_index_or ds at d) ≡ []))
