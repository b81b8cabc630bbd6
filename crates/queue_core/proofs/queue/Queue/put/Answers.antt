use Rattle.std.proofs.Common.{Bool, sym, subst}
use Rattle.queue_core.specs.Writing.{written, KeepsRow}
use Rattle.queue_core.proofs.queue.Queue.put.Goals as goal

pub returns-then-needed-clause-keeps : goal.returns-then-needed-clause-keeps
returns-then-needed-clause-keeps g c = subst (λ (b : Bool). KeepsRow g.S.Store (written b) c.args.self.now c.args.frame.now c.args.store.now c.roll.new.store) (sym c.if-needed.true) c.roll.ensures.keeps

pub returns-else-needed-clause-keeps : goal.returns-else-needed-clause-keeps
returns-else-needed-clause-keeps g c = subst (λ (b : Bool). KeepsRow g.S.Store (written b) c.args.self.now c.args.frame.now c.args.store.now c.append.new.store) (sym c.if-needed.false) c.append.ensures.keeps

pub returns-then-needed-clause-beside : goal.returns-then-needed-clause-beside
returns-then-needed-clause-beside g c = c.roll.ensures.beside

pub returns-else-needed-clause-beside : goal.returns-else-needed-clause-beside
returns-else-needed-clause-beside g c = c.append.ensures.beside
