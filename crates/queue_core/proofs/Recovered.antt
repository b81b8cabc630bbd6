-- What holds a queue is opened again.
use Rattle.std.proofs.Common.{◌≡◌, ℕ, List, Result, Ok, Err, sym, ◌∙◌, subst}
use Rattle.io_traits.specs.declared.stores.Store.{Ghosts as StoreWords}
use Rattle.io_traits.specs.declared.queue_faults.QueueFault.{QueueFault}
use Rattle.io_traits.specs.declared.queue_faults.QueueFault.TheVariants as f
use Rattle.queue_files.specs.Folders.{Folder, names_in}
use Rattle.queue_files.specs.Found.{Damaged, Found, found}
use Rattle.queue_files.specs.Kept.{Queue, Kept, RowsKept}
use Rattle.queue_files.specs.Collected.{IsLost, IsNoDamage}
use Rattle.queue_core.specs.Opening.{FindsQueue}
use Rattle.queue_core.specs.Recovery.{IsUndamaged, WhatIsKeptIsOpened}
use Rattle.queue_core.specs.Views.{QueueView}
use Rattle.queue_core.specs.declared.limits.Limits.{Limits}

ok_found : {x y : Found} → ◌≡◌ {A = Result Found Damaged} (Ok x) (Ok y) → x ≡ y
ok_found is = cc

not_lost : (names : _) (fault : QueueFault) (held : Found) (rows : Result Found Damaged) → rows ≡ Ok held → IsLost names fault rows → IsNoDamage fault
not_lost names (f.Damaged d) held rows is lost = absurd (differ (sym lost.2 ∙ is))
  where
    differ : {e : Damaged} → ◌≡◌ {A = Result Found Damaged} (Err e) (Ok held) → ⊥
    differ same = absurd cc
not_lost names f.Fault held rows is lost = tt
not_lost names f.Memory held rows is lost = tt

undamaged : (folder : List ℕ) (limits : Limits) (q : Queue) (f : Folder) (result : Result QueueView QueueFault) → Kept q f → FindsQueue folder limits f result → IsUndamaged result
undamaged folder limits q f (Ok v) kept finds = tt
undamaged folder limits q f (Err fault) kept finds = not_lost (names_in folder) fault kept.held (found f) kept.is_found finds

pub what_is_kept_is_opened : {S : Type 0} (store : StoreWords S) → WhatIsKeptIsOpened store
what_is_kept_is_opened store = record {
  undamaged = undamaged;
  again = λ v o old new q kept made. subst (λ (rows : Found). RowsKept q q.tails rows.rows rows.next) (ok_found (sym kept.is_found ∙ made.is.is_found)) kept.kept;
}
