-- Looks of all desks, of which one changes.
use Rattle.std.proofs.Common.{◌≡◌, ◌≤◌, ◌<◌, ◌+◌, ℕ, zero, suc, List, [], ◌∷◌, length, set, get_or, arith}
use Rattle.batch_shop.specs.Desks.{job_out, looks}
use Rattle.batch_shop.specs.Started.{all_looks}
use Rattle.batch_shop.specs.Sides.{me_of}
use Rattle.batch_shop.specs.declared.worker_slot.WorkerSlot.{WorkerSlot}
use Rattle.batch_shop.proofs.Stances.{one_job}

module _ {T D : Type 0} where
  pub looks_set : (ds : List (WorkerSlot T D)) (at : ℕ) (d y : WorkerSlot T D) → at < length ds → all_looks (set ds at y) + looks (get_or ds at d) ≡ all_looks ds + looks y
  unfolding all_looks
  looks_set [] at d y h = absurd (omega (arith, h))
  looks_set (x ∷ ds) zero d y h = omega arith
  looks_set (x ∷ ds) (suc at) d y h = omega (arith, looks_set ds at d y (omega (arith, h)))

  pub one_each : (d : WorkerSlot T D) → length (job_out d) ≤ 1
  one_each d = one_job (me_of d.side).0
