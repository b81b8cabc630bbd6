use Rattle.std.proofs.Common.{Some, subst, sym}
use Rattle.io_traits.specs.Connections.{brought, Lessens, IsOver}
use Rattle.io_memory.specs.Links.{coming_of, looked}
use Rattle.io_memory.proofs.Linked.{come_less, come_over}
use Rattle.io_memory.proofs.memory_links.MemoryLinksLinks.accept.Goals as goal

pub returns-clause-coming : goal.returns-clause-coming
returns-clause-coming c = subst (λ s. Lessens (Some (coming_of c.args.self.now)) (Some (coming_of s)) (brought c.accept.result)) (sym c.accept.ensures.state) (come_less (looked c.args.self.now c.accept.new.self.looks) c.accept.result c.accept.ensures.comes)

pub returns-clause-end : goal.returns-clause-end
returns-clause-end c = λ ended. subst (λ s. IsOver (Some (coming_of s))) (sym c.accept.ensures.state) (come_over (looked c.args.self.now c.accept.new.self.looks) c.accept.result c.accept.ensures.comes ended)
