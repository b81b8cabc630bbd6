use Rattle.std.proofs.Common.{◌≡◌, Bool, Err, OnOk, sym, subst}
use Rattle.queue_files.specs.Folders.{IsOwn, names_in}
use Rattle.queue_files.proofs.OtherFiles.{others_stay}
use Rattle.pq_tools.specs.Repairs.{Adds, Spends, row_if}
use Rattle.pq_tools.specs.declared.fault.RepairFault.TheVariants as r
use Rattle.pq_tools.proofs.taking.write_given.Goals as goal

pub returns-then-gives-clause-adds : goal.returns-then-gives-clause-adds
returns-then-gives-clause-adds g c =
    subst (λ (b : Bool). OnOk c.write_row.result (Adds g.S.Store (row_if b c.args.row.now) c.args.queue.now c.write_row.new.queue c.args.store.now c.write_row.new.store)) (sym c.if-gives.true) c.write_row.ensures.adds

pub returns-then-gives-clause-spent : goal.returns-then-gives-clause-spent
returns-then-gives-clause-spent g c = subst (λ (b : Bool). c.write_row.result ≡ Err r.NumbersSpent → Spends g.S.Store (row_if b c.args.row.now) c.args.queue.now) (sym c.if-gives.true) c.write_row.ensures.spent

pub returns-else-gives-clause-beside : goal.returns-else-gives-clause-beside
returns-else-gives-clause-beside g c = others_stay g.S.Store g.met.S.Store.images_tell (IsOwn (names_in c.args.queue.now.folder)) c.args.store.now
