use Rattle.std.proofs.Common.{◌++◌, Some}
use Rattle.io_traits.specs.Reads.{bytes_of, file_length}
use Rattle.io_traits.proofs.TailRuns.{on_ok_so}
use Rattle.slot_files.proofs.Altering.{altered, altered_settled, settled_now, settled_beside, keeps_same, append_keeps, appended_keeps}
use Rattle.slot_files.proofs.changes.append_settled.Goals as goal

pub returns-in_err-append-clause-any_moment : goal.returns-in_err-append-clause-any_moment
returns-in_err-append-clause-any_moment g c =
    let file = g.S.Store.seen c.args.store.now c.args.name.now in
    altered g.S.Store g.met.S.Store.images_tell c.args.name.now _ _ (keeps_same (file_length file) file) (append_keeps file c.args.bytes.now) c.args.store.now c.append.new.self c.append.ensures.change

pub returns-clause-settled : goal.returns-clause-settled
returns-clause-settled g c =
    let file = g.S.Store.seen c.args.store.now c.args.name.now in
    on_ok_so c.sync.result c.sync.ensures.durable (λ durable.
    settled_now g.S.Store g.met.S.Store.images_tell c.args.name.now _ _ (keeps_same (file_length file) file) (append_keeps file c.args.bytes.now) c.args.store.now c.append.new.self c.append.ensures.change
    c.sync.new.self c.sync.ensures.settled (Some (bytes_of file ++ c.args.bytes.now)) c.in_ok-append.ensures.written durable)

pub returns-clause-any_moment : goal.returns-clause-any_moment
returns-clause-any_moment g c =
    let file = g.S.Store.seen c.args.store.now c.args.name.now in
    altered_settled g.S.Store g.met.S.Store.images_tell c.args.name.now _ _ (keeps_same (file_length file) file) (append_keeps file c.args.bytes.now) c.args.store.now c.append.new.self c.append.ensures.change
    c.sync.new.self c.sync.ensures.settled (λ told. appended_keeps file c.args.bytes.now (g.S.Store.seen c.append.new.self c.args.name.now) (c.in_ok-append.ensures.written told))

pub returns-clause-beside : goal.returns-clause-beside
returns-clause-beside g c =
    let file = g.S.Store.seen c.args.store.now c.args.name.now in
    settled_beside g.S.Store g.met.S.Store.images_tell c.args.name.now _ _ (keeps_same (file_length file) file) (append_keeps file c.args.bytes.now) c.args.store.now c.append.new.self c.append.ensures.change c.sync.new.self c.sync.ensures.settled
