use Rattle.std.specs.List.{AllByRecursion}
use Rattle.line_links.specs.SenderTables.{IsFresh}
use Rattle.line_links.proofs.senders.AddressSenders.of.Given as goal

abbrev pub invariant-loop-address : goal.invariant-loop-address
invariant-loop-address l = AllByRecursion IsFresh l.address-iterator.rest.items
