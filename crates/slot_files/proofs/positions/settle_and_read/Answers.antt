use Rattle.slot_files.proofs.SyncedRuns.{synced_only, synced_looked}
use Rattle.slot_files.proofs.positions.settle_and_read.Goals as goal

pub returns-in_err-sync-clause-any_moment : goal.returns-in_err-sync-clause-any_moment
returns-in_err-sync-clause-any_moment g c = synced_only g.S.Store g.met.S.Store.images_tell c.args.store.now c.sync.new.self c.sync.ensures.settled

pub returns-clause-any_moment : goal.returns-clause-any_moment
returns-clause-any_moment g c = synced_looked g.S.Store g.met.S.Store.images_tell c.args.store.now c.sync.new.self c.sync.ensures.settled c.read_position.new.store c.read_position.ensures.same
