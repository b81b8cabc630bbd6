use Rattle.queue_files.specs.Others.{IsMarked}
use Rattle.queue_files.specs.Writes.{writes_of}
use Rattle.queue_files.proofs.MarkRun.{run_synced, run_written, run_settled, is_settled}
use Rattle.queue_files.proofs.Keeping.{mark_keeps, mark_records}
use Rattle.queue_files.proofs.OtherFiles.{others_synced, then_others, then_synced}
use Rattle.queue_files.proofs.marking.mark_pages.Goals as goal

pub returns-in_err-sync-clause-any_moment : goal.returns-in_err-sync-clause-any_moment
returns-in_err-sync-clause-any_moment g c = run_synced g.S.Store g.met.S.Store.images_tell (writes_of c.args.marks.now) c.args.store.now c.sync.new.self c.sync.ensures.settled

pub returns-in_err-write_marks-clause-any_moment : goal.returns-in_err-write_marks-clause-any_moment
returns-in_err-write_marks-clause-any_moment g c =
    run_written g.S.Store g.met.S.Store.images_tell (writes_of c.args.marks.now) c.args.store.now c.sync.new.self c.sync.ensures.settled c.in_ok-sync.ensures.durable c.write_marks.new.store c.write_marks.ensures.images

pub returns-clause-any_moment : goal.returns-clause-any_moment
returns-clause-any_moment g c =
    run_settled g.S.Store g.met.S.Store.images_tell (writes_of c.args.marks.now) c.args.store.now c.sync.new.self c.sync.ensures.settled c.in_ok-sync.ensures.durable c.write_marks.new.store c.write_marks.ensures.images
    c.in_ok-write_marks.ensures.wrote c.sync-2.new.self c.sync-2.ensures.settled

pub returns-clause-settled : goal.returns-clause-settled
returns-clause-settled g c =
    is_settled g.S.Store g.met.S.Store.images_tell (writes_of c.args.marks.now) c.args.store.now c.sync.new.self c.sync.ensures.settled c.in_ok-sync.ensures.durable c.write_marks.new.store c.write_marks.ensures.images
    c.in_ok-write_marks.ensures.wrote c.sync-2.new.self c.sync-2.ensures.settled c.sync-2.result c.sync-2.ensures.durable

pub returns-in_err-sync-clause-keeps : goal.returns-in_err-sync-clause-keeps
returns-in_err-sync-clause-keeps g c = mark_keeps g.S.Store g.met.S.Store.images_tell c.args.marks.now c.args.store.now c.sync.new.self (returns-in_err-sync-clause-any_moment g c)

pub returns-in_err-write_marks-clause-keeps : goal.returns-in_err-write_marks-clause-keeps
returns-in_err-write_marks-clause-keeps g c = mark_keeps g.S.Store g.met.S.Store.images_tell c.args.marks.now c.args.store.now c.write_marks.new.store (returns-in_err-write_marks-clause-any_moment g c)

pub returns-clause-keeps : goal.returns-clause-keeps
returns-clause-keeps g c = mark_keeps g.S.Store g.met.S.Store.images_tell c.args.marks.now c.args.store.now c.sync-2.new.self (returns-clause-any_moment g c)

pub returns-clause-records : goal.returns-clause-records
returns-clause-records g c = mark_records g.S.Store g.met.S.Store.images_tell c.args.marks.now c.args.store.now c.sync-2.new.self c.sync-2.result (returns-clause-settled g c)

pub returns-in_err-sync-clause-beside : goal.returns-in_err-sync-clause-beside
returns-in_err-sync-clause-beside g c = others_synced g.S.Store g.met.S.Store.images_tell (IsMarked c.args.marks.now) c.args.store.now c.sync.new.self c.sync.ensures.settled

pub returns-in_err-write_marks-clause-beside : goal.returns-in_err-write_marks-clause-beside
returns-in_err-write_marks-clause-beside g c =
    then_others g.S.Store g.met.S.Store.images_tell (others_synced g.S.Store g.met.S.Store.images_tell (IsMarked c.args.marks.now) c.args.store.now c.sync.new.self c.sync.ensures.settled) c.write_marks.ensures.beside

pub returns-clause-beside : goal.returns-clause-beside
returns-clause-beside g c =
    let marked = then_others g.S.Store g.met.S.Store.images_tell (others_synced g.S.Store g.met.S.Store.images_tell (IsMarked c.args.marks.now) c.args.store.now c.sync.new.self c.sync.ensures.settled) c.write_marks.ensures.beside in
    then_synced g.S.Store g.met.S.Store.images_tell marked c.sync-2.new.self c.sync-2.ensures.settled
