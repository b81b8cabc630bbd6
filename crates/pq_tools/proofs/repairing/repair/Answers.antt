use Rattle.std.proofs.Common.{◌≡◌, List, ℕ, Ok, Err, sym, refl, subst}
use Rattle.io_traits.specs.Folders.{folder_start}
use Rattle.io_traits.proofs.Causes.{no_cause}
use Rattle.queue_files.specs.Folders.{IsOwn, names_in}
use Rattle.queue_files.specs.Marks.{read_in}
use Rattle.queue_files.specs.Others.{KeepsOthers}
use Rattle.pq_tools.specs.Numbers.{spends_numbers}
use Rattle.pq_tools.specs.Repairs.{AreDifferent, HasFile, IsRepaired, Salvages}
use Rattle.pq_tools.proofs.Endings.{done_cause, repair_done, repair_failed, status_cause, status_out}
use Rattle.pq_tools.proofs.repairing.repair.Goals as goal

pub salvage-requires-clause-folder : goal.salvage-requires-clause-folder
salvage-requires-clause-folder g c = subst (λ (n : List ℕ). folder_start n ≡ n) (sym c.as_str.ensures) c.requires.folder

pub salvage-requires-clause-repaired : goal.salvage-requires-clause-repaired
salvage-requires-clause-repaired g c = subst (λ (n : List ℕ). folder_start n ≡ n) (sym c.as_str-2.ensures) c.requires.repaired

pub salvage-requires-clause-apart : goal.salvage-requires-clause-apart
salvage-requires-clause-apart g c = subst (λ (n : List ℕ). AreDifferent n c.as_str-2.result.now) (sym c.as_str.ensures) (subst (AreDifferent c.args.order.folder) (sym c.as_str-2.ensures) c.requires.apart)

pub returns-in-Ok-clause-ends : goal.returns-in-Ok-clause-ends
returns-in-Ok-clause-ends g c =
    let old = g.S.Store.seen c.args.store.now in
    let new = g.S.Store.seen c.salvage.new.store in
    repair_done g.S.Store g.O.Sink c.args.order c.args.store.now c.salvage.new.store c.args.out.now c.tell_rows.new.out c.tell_rows.result c.in-Ok.rows
    (λ told.
    subst (λ (a : List ℕ). Salvages (HasFile c.args.order.repaired old) (spends_numbers c.args.order.repaired (read_in (names_in a) old)) (IsRepaired (read_in (names_in a) old) (read_in (names_in c.args.order.repaired) new)) (Ok c.in-Ok.rows)) c.as_str.ensures
    (subst (λ (b : List ℕ). Salvages (HasFile b old) (spends_numbers b (read_in (names_in c.as_str.result.now) old)) (IsRepaired (read_in (names_in c.as_str.result.now) old) (read_in (names_in b) new)) (Ok c.in-Ok.rows)) c.as_str-2.ensures (c.in-Ok.ensures.rows told)))
    c.tell_rows.ensures.ends

pub returns-in-Err-clause-ends : goal.returns-in-Err-clause-ends
returns-in-Err-clause-ends g c =
    let old = g.S.Store.seen c.args.store.now in
    let new = g.S.Store.seen c.salvage.new.store in
    let Is = IsRepaired (read_in (names_in c.as_str.result.now) old) (read_in (names_in c.args.order.repaired) new) in
    repair_failed g.S.Store g.O.Sink c.args.order c.args.store.now c.salvage.new.store c.args.out.now c.status_of.result c.in-Err.fault Is
    (λ told.
    subst (λ (a : List ℕ). Salvages (HasFile c.args.order.repaired old) (spends_numbers c.args.order.repaired (read_in (names_in a) old)) Is (Err c.in-Err.fault)) c.as_str.ensures
    (subst (λ (b : List ℕ). Salvages (HasFile b old) (spends_numbers b (read_in (names_in c.as_str.result.now) old)) (IsRepaired (read_in (names_in c.as_str.result.now) old) (read_in (names_in b) new)) (Err c.in-Err.fault)) c.as_str-2.ensures (c.in-Err.ensures.rows told)))
    c.status_of.ensures

pub returns-in-Ok-clause-beside : goal.returns-in-Ok-clause-beside
returns-in-Ok-clause-beside g c = subst (λ (n : List ℕ). KeepsOthers g.S.Store (IsOwn (names_in n)) c.args.store.now c.salvage.new.store) c.as_str-2.ensures c.salvage.ensures.beside

pub returns-in-Err-clause-beside : goal.returns-in-Err-clause-beside
returns-in-Err-clause-beside g c = subst (λ (n : List ℕ). KeepsOthers g.S.Store (IsOwn (names_in n)) c.args.store.now c.salvage.new.store) c.as_str-2.ensures c.salvage.ensures.beside

pub returns-in-Ok-clause-store : goal.returns-in-Ok-clause-store
returns-in-Ok-clause-store g c = done_cause g.O.Sink _ c.args.out.now c.tell_rows.new.out c.tell_rows.result c.in-Ok.rows c.tell_rows.ensures.ends c.in-Ok.ensures.cause

pub returns-in-Err-clause-store : goal.returns-in-Err-clause-store
returns-in-Err-clause-store g c = status_cause c.args.order.id c.args.order.repaired c.in-Err.fault c.status_of.result c.status_of.ensures c.in-Err.ensures.cause

pub returns-in-Err-clause-out : goal.returns-in-Err-clause-out
returns-in-Err-clause-out g c = no_cause refl (status_out c.args.order.id c.args.order.repaired c.in-Err.fault c.status_of.result c.status_of.ensures)
