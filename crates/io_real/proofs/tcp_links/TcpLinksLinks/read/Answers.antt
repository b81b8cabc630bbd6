use Rattle.io_real.proofs.Counted.{read_keeps}
use Rattle.io_real.proofs.tcp_links.TcpLinksLinks.read.Goals as goal

pub returns-clause-others : goal.returns-clause-others
returns-clause-others g c = read_keeps c.args.conn c.args.self.now c.read.new.self c.read.result c.read.ensures.state
