use Rattle.std.proofs.Common.{Some, subst, sym, length}
use Rattle.io_traits.specs.Pieces.{bytes_in, gave}
use Rattle.io_traits.specs.Telling.{Shrinks}
use Rattle.io_memory.specs.Links.{left_of}
use Rattle.io_memory.proofs.Linked.{read_left, read_keeps_others}
use Rattle.io_memory.proofs.memory_links.MemoryLinksLinks.read.Goals as goal

pub returns-clause-left : goal.returns-clause-left
returns-clause-left c = subst (λ s. Shrinks (Some (left_of c.args.self.now c.args.conn)) (Some (left_of s c.args.conn)) (bytes_in (gave c.read.result c.read.new.into))) (sym c.read.ensures.state) (read_left c.args.self.now c.args.conn c.read.result c.read.new.into c.args.into.now c.requires c.read.ensures.answer c.read.ensures.room)

pub returns-clause-others : goal.returns-clause-others
returns-clause-others c = read_keeps_others c.args.self.now c.read.new.self c.args.conn c.read.result (length c.args.into.now) c.requires c.read.ensures.answer c.read.ensures.state
