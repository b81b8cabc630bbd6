use Rattle.io_traits.proofs.BesideRuns.{changed_beside}
use Rattle.io_traits.proofs.TailRuns.{on_ok_so, appended_run, tail_appended}
use Rattle.io_traits.proofs.tails.append_to_tail.Goals as goal

pub returns-clause-tail : goal.returns-clause-tail
returns-clause-tail g c = on_ok_so c.append.result c.append.ensures.written (λ written front tail has.
    tail_appended g.S.Store g.met.S.Store.images_tell c.args.name.now front tail c.args.bytes.now c.args.store.now c.append.new.self has c.append.ensures.change written)

pub returns-clause-any_moment : goal.returns-clause-any_moment
returns-clause-any_moment g c = λ is_frame front tail has.
    appended_run g.S.Store g.met.S.Store.images_tell c.args.name.now front tail c.args.bytes.now c.args.store.now c.append.new.self has c.append.ensures.change is_frame

pub returns-clause-beside : goal.returns-clause-beside
returns-clause-beside g c = changed_beside g.S.Store g.met.S.Store.images_tell c.args.name.now _ c.args.store.now c.append.new.self c.append.ensures.change
