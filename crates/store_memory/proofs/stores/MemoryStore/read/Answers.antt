use Rattle.std.proofs.Common.{refl, ap, ◌∙◌, subst, length, is_ok}
use Rattle.io_traits.specs.Reads.{Gives}
use Rattle.store_memory.specs.Keeping.{reads_of}
use Rattle.store_memory.specs.declared.calls.StoreCall.TheVariants.{Read}
use Rattle.store_memory.proofs.Stepping.{same_reads}
use Rattle.store_memory.proofs.stores.MemoryStore.read.Goals as goal

pub returns-clause-gives : goal.returns-clause-gives
returns-clause-gives c =
    subst (λ f. Gives f c.args.at (length c.args.into.now) c.copy_from.result c.copy_from.new.into)
    (c.self-2.invariant c.args.name.now ∙ ap (λ k. reads_of k c.args.name.now) c.self-2.view_is ∙ ap (λ r. r c.args.name.now) (same_reads c.args.self.now c.attempt.new.self (Read c.args.name.now c.args.at) (is_ok c.attempt.result) refl (c.attempt.ensures.state (Read c.args.name.now c.args.at) c.read-call.ensures))) c.copy_from.ensures.gives
