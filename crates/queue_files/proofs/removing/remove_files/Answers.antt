use Rattle.queue_files.proofs.OtherFiles.{then_synced}
use Rattle.queue_files.proofs.Removals.{all_settled, all_removed}
use Rattle.queue_files.proofs.removing.remove_files.Goals as goal

pub returns-clause-any_moment : goal.returns-clause-any_moment
returns-clause-any_moment g c =
    all_settled g.S.Store g.met.S.Store.images_tell c.args.names.now c.args.store.now c.remove_each.new.store c.sync.new.self c.remove_each.ensures.any_moment c.in_ok-remove_each.ensures.gone c.sync.ensures.settled

pub returns-clause-gone : goal.returns-clause-gone
returns-clause-gone g c =
    all_removed g.S.Store g.met.S.Store.images_tell c.args.names.now c.args.store.now c.remove_each.new.store c.sync.new.self c.sync.result c.in_ok-remove_each.ensures.gone c.sync.ensures.settled c.sync.ensures.durable

pub returns-clause-beside : goal.returns-clause-beside
returns-clause-beside g c = then_synced g.S.Store g.met.S.Store.images_tell c.remove_each.ensures.beside c.sync.new.self c.sync.ensures.settled
