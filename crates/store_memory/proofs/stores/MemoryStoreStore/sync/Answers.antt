use Rattle.std.proofs.Common.{refl, is_ok}
use Rattle.store_memory.specs.declared.calls.StoreCall.TheVariants.{Sync}
use Rattle.store_memory.proofs.Stepping.{on_did, synced_images, may_settle}
use Rattle.store_memory.proofs.stores.MemoryStoreStore.sync.Goals as goal

pub returns-clause-durable : goal.returns-clause-durable
returns-clause-durable c = on_did c.args.self.now c.sync.new.self Sync c.sync.result (synced_images c.args.self.now c.sync.new.self Sync refl) c.sync.ensures.state

pub returns-clause-settled : goal.returns-clause-settled
returns-clause-settled c = may_settle c.args.self.now c.sync.new.self Sync (is_ok c.sync.result) refl c.sync.ensures.state
