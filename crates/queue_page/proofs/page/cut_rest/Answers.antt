use Rattle.std.proofs.Common.{◌≡◌, inl}
use Rattle.io_traits.specs.Moments.{LeavesBeside}
use Rattle.io_traits.specs.Tails.{HoldsNamed}
use Rattle.io_traits.proofs.Moments.{started}
use Rattle.io_traits.proofs.Beside.{beside_none}
use Rattle.io_traits.proofs.BesideRuns.{changed_synced_beside}
use Rattle.io_traits.proofs.TailRuns.{holds, cut_run, cut_synced_run}
use Rattle.queue_page.proofs.page.cut_rest.Goals as goal

pub returns-in_err-cut-clause-any_moment : goal.returns-in_err-cut-clause-any_moment
returns-in_err-cut-clause-any_moment g c = λ is_frame front tail has is.
    cut_run g.S.Store g.met.S.Store.images_tell c.args.name.now front tail c.args.kept is c.args.store.now c.cut.new.self has c.cut.ensures.change is_frame

pub returns-in_err-sync-clause-any_moment : goal.returns-in_err-sync-clause-any_moment
returns-in_err-sync-clause-any_moment g c = λ is_frame front tail has is.
    cut_synced_run g.S.Store g.met.S.Store.images_tell c.args.name.now front tail c.args.kept is c.args.store.now c.cut.new.self has c.cut.ensures.change c.in_ok-cut.ensures.cut c.sync.new.self c.sync.ensures.settled is_frame

pub returns-in_err-sync-clause-beside : goal.returns-in_err-sync-clause-beside
returns-in_err-sync-clause-beside g c =
    changed_synced_beside g.S.Store g.met.S.Store.images_tell c.args.name.now _ c.args.store.now c.cut.new.self c.sync.new.self c.cut.ensures.change c.sync.ensures.settled

pub returns-in_ok-sync-clause-any_moment : goal.returns-in_ok-sync-clause-any_moment
returns-in_ok-sync-clause-any_moment g c = λ is_frame front tail has is.
    cut_synced_run g.S.Store g.met.S.Store.images_tell c.args.name.now front tail c.args.kept is c.args.store.now c.cut.new.self has c.cut.ensures.change c.in_ok-cut.ensures.cut c.sync.new.self c.sync.ensures.settled is_frame

pub returns-in_ok-sync-clause-beside : goal.returns-in_ok-sync-clause-beside
returns-in_ok-sync-clause-beside g c =
    changed_synced_beside g.S.Store g.met.S.Store.images_tell c.args.name.now _ c.args.store.now c.cut.new.self c.sync.new.self c.cut.ensures.change c.sync.ensures.settled

pub returns-else-kept-len-clause-any_moment : goal.returns-else-kept-len-clause-any_moment
returns-else-kept-len-clause-any_moment g c = λ is_frame front tail has is.
    started g.S.Store c.args.store.now (HoldsNamed g.S.Store is_frame c.args.name.now front tail) (holds g.S.Store g.met.S.Store.images_tell c.args.name.now front tail is_frame c.args.store.now has.images)

pub returns-else-kept-len-clause-beside : goal.returns-else-kept-len-clause-beside
returns-else-kept-len-clause-beside g c =
    started g.S.Store c.args.store.now (LeavesBeside g.S.Store (λ n. n ≡ c.args.name.now) c.args.store.now) (λ i left. beside_none g.S.Store (λ n. n ≡ c.args.name.now) c.args.store.now i (inl left))
