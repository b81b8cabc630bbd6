use Rattle.io_traits.proofs.BesideRuns.{changed_beside}
use Rattle.io_traits.proofs.TailRuns.{tail_appended}
use Rattle.queue_page.proofs.Appending.{appended_first}
use Rattle.queue_page.proofs.page.Page.append_row.Goals as goal

pub returns-clause-tail : goal.returns-clause-tail
returns-clause-tail g c = λ front tail has.
    tail_appended g.S.Store g.met.S.Store.images_tell c.args.name.now front tail c.args.frame.now c.args.store.now c.append.new.self has c.append.ensures.change c.in_ok-append.ensures.written

pub returns-clause-beside : goal.returns-clause-beside
returns-clause-beside g c = changed_beside g.S.Store g.met.S.Store.images_tell c.args.name.now _ c.args.store.now c.append.new.self c.append.ensures.change

pub returns-in_err-append-clause-any_moment : goal.returns-in_err-append-clause-any_moment
returns-in_err-append-clause-any_moment g c = λ s version rows pending front tail row has is next.
    appended_first g.S.Store g.met.S.Store.images_tell c.args.name.now s version rows pending front tail row c.args.frame.now c.args.store.now c.append.new.self has is next c.append.ensures.change

pub returns-clause-any_moment : goal.returns-clause-any_moment
returns-clause-any_moment g c = λ s version rows pending front tail row has is next.
    appended_first g.S.Store g.met.S.Store.images_tell c.args.name.now s version rows pending front tail row c.args.frame.now c.args.store.now c.append.new.self has is next c.append.ensures.change
