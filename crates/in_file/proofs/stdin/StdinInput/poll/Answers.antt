use Rattle.std.proofs.Common.{sym, subst}
use Rattle.in_file.specs.Streams.{StaysSet, WasPolled}
use Rattle.in_file.proofs.Streaming.{stays_so}
use Rattle.in_file.proofs.stdin.StdinInput.poll.Goals as goal

pub returns-clause-polled : goal.returns-clause-polled
returns-clause-polled g c = subst (λ v. WasPolled g.I.Source c.args.moment c.args.source.now c.read_once.new.source c.args.self.now v) (sym c.outcome.ensures.same) c.in_ok-read_once.ensures.polled

pub returns-clause-stays : goal.returns-clause-stays
returns-clause-stays g c =
    subst (StaysSet c.args.self.now) (sym c.outcome.ensures.same) (stays_so g.I.Source c.args.moment c.args.source.now c.read_once.new.source c.args.self.now c.read_once.new.self c.in_ok-read_once.ensures.polled)
