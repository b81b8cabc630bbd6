use Rattle.std.proofs.Common.{◌≤◌, subst, sym}
use Rattle.io_real.specs.Links.{LinkCounts, AllCame, faults_of, waits_of}
use Rattle.io_real.proofs.Counted.{came_others, close_later}
use Rattle.io_real.proofs.tcp_links.TcpLinks.close.Goals as goal

pub invariant_of-self : goal.invariant_of-self
invariant_of-self g c = subst (AllCame c.self.inside.came) (sym c.close.ensures) (came_others c.self.inside.came c.args.conn c.self.inside.connections c.self.invariant)

pub returns-clause-faults : goal.returns-clause-faults
returns-clause-faults g c =
    let l : LinkCounts = record { came = c.self.inside.came; connections = c.self.inside.connections; accepts = record { faults = c.self.inside.faults; waits = c.self.inside.waits } } in
    subst (λ s. faults_of s c.args.conn ≤ faults_of (record l { connections = c.close.new.self }) c.args.conn) c.self.view_is (close_later l c.args.conn c.close.new.self c.self.invariant c.close.ensures).0

pub returns-clause-waits : goal.returns-clause-waits
returns-clause-waits g c =
    let l : LinkCounts = record { came = c.self.inside.came; connections = c.self.inside.connections; accepts = record { faults = c.self.inside.faults; waits = c.self.inside.waits } } in
    subst (λ s. waits_of s c.args.conn ≤ waits_of (record l { connections = c.close.new.self }) c.args.conn) c.self.view_is (close_later l c.args.conn c.close.new.self c.self.invariant c.close.ensures).1
