use Rattle.std.proofs.Common.{ap}
use Rattle.dead_letters.specs.Found.{found}
use Rattle.dead_letters.proofs.OpeningRun.{not_begun, settling, settled_then, holds_opened}
use Rattle.dead_letters.proofs.opening.open_folder.Goals as goal

pub returns-in_err-slot-clause-any_moment : goal.returns-in_err-slot-clause-any_moment
returns-in_err-slot-clause-any_moment g c = not_begun g.S.Store g.met.S.Store.images_tell c.args.folder.now c.args.store.now

pub returns-in_err-counted-clause-any_moment : goal.returns-in_err-counted-clause-any_moment
returns-in_err-counted-clause-any_moment g c = settling g.S.Store g.met.S.Store.images_tell c.args.folder.now c.args.store.now c.settle_and_read.new.store c.settle_and_read.ensures.any_moment

pub returns-clause-opened : goal.returns-clause-opened
returns-clause-opened g c =
    holds_opened g.S.Store g.met.S.Store.images_tell c.args.folder.now c.args.store.now c.settle_and_read.new.store c.open_settled.new.store (λ told. ap (found c.args.folder.now) (c.settle_and_read.ensures.reads told)) c.open_settled.result
    c.open_settled.ensures.opened

pub returns-clause-any_moment : goal.returns-clause-any_moment
returns-clause-any_moment g c =
    settled_then g.S.Store g.met.S.Store.images_tell c.args.folder.now c.args.store.now c.settle_and_read.new.store c.open_settled.new.store c.settle_and_read.ensures.any_moment c.settle_and_read.ensures.reads c.open_settled.ensures.any_moment
