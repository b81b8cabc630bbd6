use Rattle.std.proofs.Common.{refl, ap, ◌∙◌, length, option_map, is_ok}
use Rattle.store_memory.specs.Keeping.{reads_of}
use Rattle.store_memory.specs.declared.calls.StoreCall.TheVariants.{Length}
use Rattle.store_memory.proofs.Stepping.{same_reads}
use Rattle.store_memory.proofs.stores.MemoryStore.length.Goals as goal

pub returns-clause-length : goal.returns-clause-length
returns-clause-length c =
    c.length_in.ensures
    ∙ ap (option_map length) (c.self-2.invariant c.args.name.now ∙ ap (λ k. reads_of k c.args.name.now) c.self-2.view_is ∙ ap (λ r. r c.args.name.now) (same_reads c.args.self.now c.attempt.new.self (Length c.args.name.now) (is_ok c.attempt.result) refl (c.attempt.ensures.state (Length c.args.name.now) c.length-call.ensures)))
