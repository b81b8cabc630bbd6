-- What a check says of a folder.
use Rattle.std.proofs.Common.{◌≡◌, List, ℕ, Result, Err, sym, ◌∙◌, ap, subst}
use Rattle.std.proofs.lemmas.Result.{err_from_is_err_and}
use Rattle.std.specs.Result.{IsErrAnd}
use Rattle.io_traits.specs.declared.queue_faults.QueueFault.{QueueFault}
use Rattle.io_traits.specs.declared.queue_faults.QueueFault.TheVariants as f
use Rattle.queue_files.specs.Folders.{Names}
use Rattle.queue_files.specs.Found.{Damaged, Found}
use Rattle.queue_files.specs.Collected.{IsLost}
use Rattle.pq_tools.specs.Checks.{Counts, Said, said_of}

-- a fault that was found is said
pub says_lost : (names : Names) (fault : QueueFault) (found : Result Found Damaged) → IsLost names fault found → Counts (Err fault) (said_of names found)
says_lost names (f.Damaged d) found (role, file, is) = ap (said_of names) is ∙ ap (λ (name : List ℕ). Err (record { file = name; place = d.place; found = d.found; expected = d.expected })) (sym file)
says_lost names f.Fault found is = tt
says_lost names f.Memory found is = tt

-- and handed on
pub hands_on : (result : Result ℕ QueueFault) (lost : QueueFault) (said : Said) → IsErrAnd result (λ e. e ≡ lost) → Counts (Err lost) said → Counts result said
hands_on result lost said err is =
    let p = err_from_is_err_and result err in
    subst (λ r. Counts r said) (sym (p.1 ∙ ap Err p.2)) is
