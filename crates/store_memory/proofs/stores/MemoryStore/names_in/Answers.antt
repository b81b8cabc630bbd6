use Rattle.std.proofs.Common.{ap, ◌∙◌}
use Rattle.store_memory.specs.Keeping.{reads_of}
use Rattle.io_memory.specs.Tables.{content_of}
use Rattle.io_memory.proofs.PartLemmas.{lists_same}
use Rattle.store_memory.proofs.stores.MemoryStore.names_in.Goals as goal

pub returns-in-Ok-clause-names : goal.returns-in-Ok-clause-names
returns-in-Ok-clause-names c = lists_same (content_of c.self.inside.files) (reads_of c.args.self.now) c.args.folder.now c.in-Ok.names (λ n. c.self.invariant n ∙ ap (λ k. reads_of k n) c.self.view_is) c.in-Ok.ensures
