use Rattle.std.proofs.Common.{refl}
use Rattle.store_memory.specs.declared.calls.StoreCall.TheVariants.{List as Listing}
use Rattle.store_memory.proofs.Stepping.{answered_unless, changes_nothing}
use Rattle.store_memory.proofs.stores.MemoryStoreStore.list.Goals as goal

pub returns-clause-same : goal.returns-clause-same
returns-clause-same c =
    let answered = answered_unless c.args.self.now c.list.new.self (Listing c.args.folder.now) c.list.result c.list.ensures.state in
    changes_nothing c.args.self.now c.list.new.self (Listing c.args.folder.now) answered.0 refl answered.1
