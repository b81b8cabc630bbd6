use Rattle.std.proofs.Common.{arith}
use Rattle.store_memory.specs.declared.calls.StoreCall.TheVariants.{WriteAt}
use Rattle.store_memory.proofs.Stepping.{on_did}
use Rattle.store_memory.proofs.stores.MemoryStore.write_at.Goals as goal

pub returns-clause-fits : goal.returns-clause-fits
returns-clause-fits c =
    on_did c.args.self.now c.attempt.new.self (WriteAt c.args.name.now c.args.at c.args.bytes.now) c.attempt.result (λ did. omega (arith, c.requires, c.length_of-length.ensures.length, c.length_of-length.ensures.fits)) (c.attempt.ensures.state (WriteAt c.args.name.now c.args.at c.args.bytes.now) c.write_at-call.ensures)
