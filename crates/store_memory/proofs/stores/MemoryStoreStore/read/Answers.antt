use Rattle.std.proofs.Common.{refl, is_ok}
use Rattle.store_memory.specs.declared.calls.StoreCall.TheVariants.{Read}
use Rattle.store_memory.proofs.Stepping.{changes_nothing}
use Rattle.store_memory.proofs.stores.MemoryStoreStore.read.Goals as goal

pub returns-clause-same : goal.returns-clause-same
returns-clause-same c = changes_nothing c.args.self.now c.read.new.self (Read c.args.name.now c.args.at) (is_ok c.read.result) refl c.read.ensures.state
