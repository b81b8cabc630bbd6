use Rattle.std.proofs.Common.{sym, subst}
use Rattle.in_file.specs.Looks.{Keeps, WasPolled}
use Rattle.in_file.proofs.Polling.{keeps_so}
use Rattle.in_file.proofs.input.FileInput.poll.Goals as goal

pub returns-clause-polled : goal.returns-clause-polled
returns-clause-polled g c = subst (λ v. WasPolled g.F.Files c.args.moment c.args.files.now c.read_once.new.files c.args.self.now v) (sym c.outcome.ensures.same) c.in_ok-read_once.ensures.polled

pub returns-clause-keeps : goal.returns-clause-keeps
returns-clause-keeps g c =
    subst (Keeps c.args.self.now) (sym c.outcome.ensures.same) (keeps_so g.F.Files c.args.moment c.args.files.now c.read_once.new.files c.args.self.now c.read_once.new.self c.in_ok-read_once.ensures.polled)
