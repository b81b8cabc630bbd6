use Rattle.bulk_replies.proofs.Additions.{with_error, with_other, with_status}
use Rattle.bulk_replies.proofs.item.Saying.and.Goals as goal

pub returns-then-eq : goal.returns-then-eq
returns-then-eq g c = let read = c.in_ok-take_number.ensures in (read.0, read.1, λ ms says. with_status _ read.0 ms c.args.self _ _ c.if-eq.ensures read.2 c.small-status.ensures says)

pub returns-then-eq-2 : goal.returns-then-eq-2
returns-then-eq-2 g c = let read = c.in_ok-reason.ensures in (read.0, read.1, λ ms says. with_error _ read.0 ms c.args.self _ c.if-eq-2.ensures read.2 says)

pub returns : goal.returns
returns g c = let read = c.in_ok-pass.ensures in (read.0, read.1, λ ms says. with_other _ read.0 ms c.args.self c.if-eq.ensures c.if-eq-2.ensures says)
