use Rattle.io_real.proofs.Counted.{close_keeps}
use Rattle.io_real.proofs.tcp_links.TcpLinksLinks.close.Goals as goal

pub returns-clause-others : goal.returns-clause-others
returns-clause-others g c = close_keeps c.args.conn c.args.self.now c.close.new.self c.close.ensures.state
