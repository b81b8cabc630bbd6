use Rattle.std.proofs.Common.{None, ◌∙◌, is_ok}
use Rattle.io_traits.specs.Images.{RemovedFile}
use Rattle.store_memory.specs.Keeping.{reads_of}
use Rattle.store_memory.specs.declared.calls.StoreCall.TheVariants.{Remove}
use Rattle.store_memory.proofs.Stepping.{at_name, at_other, on_did, did_read, changes_one, removed_none}
use Rattle.store_memory.proofs.stores.MemoryStoreStore.remove.Goals as goal

pub returns-clause-removed : goal.returns-clause-removed
returns-clause-removed c =
    on_did c.args.self.now c.remove.new.self (Remove c.args.name.now) c.remove.result
    (λ did told. did_read c.args.self.now c.remove.new.self (Remove c.args.name.now) did c.args.name.now ∙ at_name c.args.name.now None (reads_of c.args.self.now c.args.name.now)) c.remove.ensures.state

pub returns-clause-change : goal.returns-clause-change
returns-clause-change c =
    changes_one c.args.self.now c.remove.new.self (Remove c.args.name.now) (is_ok c.remove.result) c.args.name.now RemovedFile
    (λ n f differ. at_other c.args.name.now n _ f differ) removed_none (λ i left. left) c.remove.ensures.state
