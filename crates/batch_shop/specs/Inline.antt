-- A shop that does its jobs itself.
use Rattle.std.specs.Prelude.{◌≡◌, ℕ, List, ◌∷◌}
use Rattle.batch_shop.specs.declared.inline.InlineShop.{InlineShop}

-- the jobs that are out, the oldest first
abbrev pub jobs_of : {T : Type 0} → InlineShop T → List T
jobs_of s = s.jobs.items

-- how many may be out
abbrev pub workers_of : {T : Type 0} → InlineShop T → ℕ
workers_of s = s.workers

-- the oldest job is home, and this is a result of it
abbrev pub DoesOldest : {T D : Type 0} → (T → D → Type 0) → List T → List T → D → Type 0
DoesOldest {T} gives old new done = (job : T) × (old ≡ job ∷ new) × gives job done
