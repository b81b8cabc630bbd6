use Rattle.std.proofs.Common.{Some, subst, sym}
use Rattle.io_traits.specs.Pieces.{bytes_in, piece_list, gave}
use Rattle.io_traits.specs.Telling.{Grows, Shrinks, IsAtEnd}
use Rattle.io_memory.proofs.Taking.{read_gives, read_takes, read_ends}
use Rattle.io_memory.proofs.memory_sources.MemorySourceSource.read.Goals as goal

pub returns-clause-given : goal.returns-clause-given
returns-clause-given c = subst (λ s. Grows (Some c.args.self.now.given) (Some s.given) (piece_list (gave c.read.result c.read.new.into))) (sym c.read.ensures.state) (read_gives c.args.self.now c.args.into.now c.read.new.into c.read.result c.read.ensures.room c.read.ensures.bytes)

pub returns-clause-left : goal.returns-clause-left
returns-clause-left c = subst (λ s. Shrinks (Some c.args.self.now.left) (Some s.left) (bytes_in (gave c.read.result c.read.new.into))) (sym c.read.ensures.state) (read_takes c.args.self.now c.args.into.now c.read.new.into c.read.result c.read.ensures.room c.read.ensures.bytes)

pub returns-clause-end : goal.returns-clause-end
returns-clause-end c = λ ended. subst (λ s. IsAtEnd (Some s.left)) (sym c.read.ensures.state) (read_ends c.args.self.now c.args.into.now c.read.new.into c.read.result ended (c.read.ensures.end ended))
