use Rattle.std.proofs.Common.{◌≡◌, Ok, subst, sym}
use Rattle.std.specs.Prelude.{IsErr}
use Rattle.io_traits.specs.Counts.{HasCause}
use Rattle.io_traits.specs.declared.sources.Step.TheVariants.{NotYet}
use Rattle.io_real.specs.Links.{LinkCounts, AllCame, faults_of, waits_of}
use Rattle.io_real.proofs.Counted.{came_counted, read_faults, read_waits}
use Rattle.io_real.proofs.tcp_links.TcpLinks.read.Goals as goal

pub invariant_of-self : goal.invariant_of-self
invariant_of-self g c = subst (AllCame c.self.inside.came) (sym c.read.ensures.state) (came_counted c.self.inside.came c.args.conn c.read.result c.self.inside.connections c.self.invariant)

pub returns-clause-cause : goal.returns-clause-cause
returns-clause-cause g c =
    let l : LinkCounts = record { came = c.self.inside.came; connections = c.self.inside.connections; accepts = record { faults = c.self.inside.faults; waits = c.self.inside.waits } } in
    subst (λ s. HasCause (faults_of s c.args.conn) (faults_of (record l { connections = c.read.new.self }) c.args.conn) (IsErr c.read.result)) c.self.view_is
    (read_faults l c.args.conn c.read.result c.read.new.self c.self.invariant c.read.ensures.state c.read.ensures.closed)

pub returns-clause-waits : goal.returns-clause-waits
returns-clause-waits g c =
    let l : LinkCounts = record { came = c.self.inside.came; connections = c.self.inside.connections; accepts = record { faults = c.self.inside.faults; waits = c.self.inside.waits } } in
    subst (λ s. HasCause (waits_of s c.args.conn) (waits_of (record l { connections = c.read.new.self }) c.args.conn) (c.read.result ≡ Ok NotYet)) c.self.view_is
    (read_waits l c.args.conn c.read.result c.read.new.self c.self.invariant c.read.ensures.state c.read.ensures.closed)
