use Rattle.io_real.proofs.Counted.{accept_keeps}
use Rattle.io_real.proofs.tcp_links.TcpLinksLinks.accept.Goals as goal

pub returns-clause-reads : goal.returns-clause-reads
returns-clause-reads g c = accept_keeps c.args.self.now c.accept.new.self c.accept.result c.accept.ensures.number c.accept.ensures.state
