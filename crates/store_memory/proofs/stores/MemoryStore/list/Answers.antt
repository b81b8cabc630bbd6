use Rattle.std.proofs.Common.{refl, is_ok}
use Rattle.store_memory.specs.Keeping.{reads_of}
use Rattle.store_memory.specs.declared.calls.StoreCall.TheVariants.{List as Listing}
use Rattle.store_memory.proofs.Stepping.{same_reads}
use Rattle.io_memory.proofs.PartLemmas.{names_same}
use Rattle.store_memory.proofs.stores.MemoryStore.list.Goals as goal

pub returns-in-Ok-clause-names : goal.returns-in-Ok-clause-names
returns-in-Ok-clause-names c = names_same (reads_of c.attempt.new.self) (reads_of c.args.self.now) c.args.folder.now c.names_in.result (same_reads c.args.self.now c.attempt.new.self (Listing c.args.folder.now) (is_ok c.attempt.result) refl (c.attempt.ensures.state (Listing c.args.folder.now) c.list-call.ensures)) c.names_in.ensures.names
