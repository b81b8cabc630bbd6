-- The job that is out at a desk, and how often its result was looked for in vain.
use Rattle.std.specs.Prelude.{◌≡◌, ℕ, ◌+◌, ◌⊎◌, Bool, List, [], ◌∷◌, Option, Some, None}
use Rattle.batch_shop.specs.Rule.{job_in, looks_in}
use Rattle.batch_shop.specs.Sides.{me_of}
use Rattle.batch_shop.specs.declared.worker_slot.WorkerSlot.{WorkerSlot}

module _ {T D : Type 0} where
  abbrev pub is_out : WorkerSlot T D → Bool
  is_out d = d.out

  -- the job that is out at a desk, if any
  abbrev pub job_out : WorkerSlot T D → List T
  job_out d = job_in (me_of d.side).0

  -- how many looks found it not done
  abbrev pub looks : WorkerSlot T D → ℕ
  looks d = looks_in (me_of d.side).0

  -- the result of the job came home, with no look in vain or with some
  pub record Home (gives : T → D → Type 0) (d : D) (old new : WorkerSlot T D) : Type 0 where
    pub job : T
    pub job_is : job_out old ≡ job ∷ []
    pub result : gives job d
    pub none_out : job_out new ≡ []

  -- the result came home; or no job was out; or the job is still out, and one more look was in vain
  abbrev pub TakesFrom : (T → D → Type 0) → Option D → WorkerSlot T D → WorkerSlot T D → Type 0
  TakesFrom gives (Some d) old new = Home gives d old new × (looks new ≡ looks old)
  TakesFrom gives None old new = (job_out new ≡ job_out old) × (((job_out old ≡ []) × (looks new ≡ looks old)) ⊎ (looks new ≡ looks old + 1))

  -- the result came home; or no job was out
  abbrev pub Finishes : (T → D → Type 0) → Option D → WorkerSlot T D → WorkerSlot T D → Type 0
  Finishes gives (Some d) old new = Home gives d old new
  Finishes gives None old new = (job_out old ≡ []) × (job_out new ≡ [])
