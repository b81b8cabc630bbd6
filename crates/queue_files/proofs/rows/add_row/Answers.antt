use Rattle.std.proofs.Common.{◌≡◌, refl}
use Rattle.io_traits.proofs.TailRuns.{on_ok_so}
use Rattle.queue_files.proofs.Lengths.{longer_tail}
use Rattle.queue_files.proofs.OtherFiles.{others_changed}
use Rattle.queue_files.proofs.RowRun.{row_kept, row_ready}
use Rattle.queue_files.proofs.rows.add_row.Goals as goal

pub returns-clause-keeps : goal.returns-clause-keeps
returns-clause-keeps g c = row_kept g.S.Store g.met.S.Store.images_tell c.args.name.now c.args.frame.now c.args.store.now c.append_row.new.store c.append_row.ensures.change

pub returns-clause-ready : goal.returns-clause-ready
returns-clause-ready g c =
    row_ready g.S.Store g.met.S.Store.images_tell c.args.name.now c.args.frame.now c.args.store.now c.append_row.new.store c.append_row.ensures.change c.append_row.result c.append_row.ensures.written

pub returns-clause-longer : goal.returns-clause-longer
returns-clause-longer g c =
    on_ok_so c.append_row.result c.append_row.ensures.written (λ written told. longer_tail c.args.name.now c.args.frame.now _ _ (written told) (c.append_row.ensures.change.beside told))

pub returns-clause-beside : goal.returns-clause-beside
returns-clause-beside g c =
    let name = c.args.name.now in
    others_changed g.S.Store g.met.S.Store.images_tell (λ n. n ≡ name) c.args.store.now c.append_row.new.store name name _ refl refl c.append_row.ensures.change
