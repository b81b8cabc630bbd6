use Rattle.std.proofs.Common.{refl, is_ok}
use Rattle.store_memory.specs.declared.calls.StoreCall.TheVariants.{Length}
use Rattle.store_memory.proofs.Stepping.{changes_nothing}
use Rattle.store_memory.proofs.stores.MemoryStoreStore.length.Goals as goal

pub returns-clause-same : goal.returns-clause-same
returns-clause-same c = changes_nothing c.args.self.now c.length.new.self (Length c.args.name.now) (is_ok c.length.result) refl c.length.ensures.state
