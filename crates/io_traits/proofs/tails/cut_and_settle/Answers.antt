use Rattle.io_traits.proofs.BesideRuns.{changed_beside, changed_synced_beside}
use Rattle.io_traits.proofs.TailRuns.{on_ok_so, cut_run, cut_synced_run, front_settled}
use Rattle.io_traits.proofs.tails.cut_and_settle.Goals as goal

pub returns-in_err-cut-clause-any_moment : goal.returns-in_err-cut-clause-any_moment
returns-in_err-cut-clause-any_moment g c = λ is_frame front tail has is.
    cut_run g.S.Store g.met.S.Store.images_tell c.args.name.now front tail c.args.length is c.args.store.now c.cut.new.self has c.cut.ensures.change is_frame

pub returns-in_err-cut-clause-beside : goal.returns-in_err-cut-clause-beside
returns-in_err-cut-clause-beside g c = changed_beside g.S.Store g.met.S.Store.images_tell c.args.name.now _ c.args.store.now c.cut.new.self c.cut.ensures.change

pub returns-clause-settled : goal.returns-clause-settled
returns-clause-settled g c = on_ok_so c.sync.result c.sync.ensures.durable (λ durable front tail has is.
    front_settled g.S.Store g.met.S.Store.images_tell c.args.name.now front tail c.args.length is c.args.store.now c.cut.new.self has c.cut.ensures.change c.in_ok-cut.ensures.cut c.sync.new.self c.sync.ensures.settled durable)

pub returns-clause-any_moment : goal.returns-clause-any_moment
returns-clause-any_moment g c = λ is_frame front tail has is.
    cut_synced_run g.S.Store g.met.S.Store.images_tell c.args.name.now front tail c.args.length is c.args.store.now c.cut.new.self has c.cut.ensures.change c.in_ok-cut.ensures.cut c.sync.new.self c.sync.ensures.settled is_frame

pub returns-clause-beside : goal.returns-clause-beside
returns-clause-beside g c = changed_synced_beside g.S.Store g.met.S.Store.images_tell c.args.name.now _ c.args.store.now c.cut.new.self c.sync.new.self c.cut.ensures.change c.sync.ensures.settled
