use Rattle.std.proofs.Common.{◌++◌}
use Rattle.io_traits.proofs.BesideRuns.{changed_beside, changed_synced_beside}
use Rattle.io_traits.proofs.TailRuns.{on_ok_so, appended_run, appended_synced_run, tail_appended, settled_by}
use Rattle.io_traits.proofs.tails.append_and_settle.Goals as goal

pub returns-in_err-append-clause-any_moment : goal.returns-in_err-append-clause-any_moment
returns-in_err-append-clause-any_moment g c = λ is_frame front tail has.
    appended_run g.S.Store g.met.S.Store.images_tell c.args.name.now front tail c.args.bytes.now c.args.store.now c.append.new.self has c.append.ensures.change is_frame

pub returns-in_err-append-clause-beside : goal.returns-in_err-append-clause-beside
returns-in_err-append-clause-beside g c = changed_beside g.S.Store g.met.S.Store.images_tell c.args.name.now _ c.args.store.now c.append.new.self c.append.ensures.change

pub returns-clause-settled : goal.returns-clause-settled
returns-clause-settled g c = on_ok_so c.sync.result c.sync.ensures.durable (λ durable front tail has.
    settled_by g.S.Store g.met.S.Store.images_tell c.args.name.now front (tail ++ c.args.bytes.now) c.append.new.self c.sync.new.self (front ++ (tail ++ c.args.bytes.now))
    (tail_appended g.S.Store g.met.S.Store.images_tell c.args.name.now front tail c.args.bytes.now c.args.store.now c.append.new.self has c.append.ensures.change c.in_ok-append.ensures.written).seen c.sync.ensures.settled durable)

pub returns-clause-any_moment : goal.returns-clause-any_moment
returns-clause-any_moment g c = λ is_frame front tail has.
    appended_synced_run g.S.Store g.met.S.Store.images_tell c.args.name.now front tail c.args.bytes.now c.args.store.now c.append.new.self c.sync.new.self has c.append.ensures.change c.in_ok-append.ensures.written c.sync.ensures.settled is_frame

pub returns-clause-beside : goal.returns-clause-beside
returns-clause-beside g c = changed_synced_beside g.S.Store g.met.S.Store.images_tell c.args.name.now _ c.args.store.now c.append.new.self c.sync.new.self c.append.ensures.change c.sync.ensures.settled
