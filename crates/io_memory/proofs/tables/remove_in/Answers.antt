use Rattle.std.proofs.Common.{None, subst, sym}
use Rattle.io_memory.specs.Tables.{Changed}
use Rattle.io_memory.proofs.Changes.{remove_changed}
use Rattle.io_memory.proofs.tables.remove_in.Goals as goal

pub returns : goal.returns
returns c = subst (Changed c.args.name.now (λ _. None) c.args.files.now) (sym c.remove.ensures.rest) (remove_changed c.args.name.now c.args.files.now c.members-rising.ensures.rises)
