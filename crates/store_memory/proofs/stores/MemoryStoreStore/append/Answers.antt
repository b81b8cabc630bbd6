use Rattle.std.proofs.Common.{◌++◌, Some, ◌∙◌, is_ok}
use Rattle.io_traits.specs.Reads.{bytes_of, file_length}
use Rattle.io_traits.specs.Images.{TornFile}
use Rattle.store_memory.specs.Keeping.{reads_of}
use Rattle.store_memory.specs.declared.calls.StoreCall.TheVariants.{Append}
use Rattle.store_memory.proofs.Stepping.{at_name, at_other, on_did, did_read, changes_one, torn_none}
use Rattle.store_memory.proofs.stores.MemoryStoreStore.append.Goals as goal

pub returns-clause-written : goal.returns-clause-written
returns-clause-written c =
    on_did c.args.self.now c.append.new.self (Append c.args.name.now c.args.bytes.now) c.append.result
    (λ did told. did_read c.args.self.now c.append.new.self (Append c.args.name.now c.args.bytes.now) did c.args.name.now ∙ at_name c.args.name.now (Some (bytes_of (reads_of c.args.self.now c.args.name.now) ++ c.args.bytes.now)) (reads_of c.args.self.now c.args.name.now)) c.append.ensures.state

pub returns-clause-change : goal.returns-clause-change
returns-clause-change c =
    changes_one c.args.self.now c.append.new.self (Append c.args.name.now c.args.bytes.now) (is_ok c.append.result) c.args.name.now (TornFile (file_length (reads_of c.args.self.now c.args.name.now)) c.args.bytes.now)
    (λ n f differ. at_other c.args.name.now n _ f differ) (torn_none (file_length (reads_of c.args.self.now c.args.name.now)) c.args.bytes.now) (λ i left. left) c.append.ensures.state
