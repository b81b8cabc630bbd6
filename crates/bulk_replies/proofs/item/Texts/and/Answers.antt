use Rattle.bulk_replies.proofs.Additions.{with_no_text, with_reason, with_type}
use Rattle.bulk_replies.proofs.item.Texts.and.Goals as goal

pub returns-then-eq : goal.returns-then-eq
returns-then-eq g c = let read = c.in_ok-reason.ensures in (read.0, read.1, λ ms says. with_reason _ read.0 ms c.args.self _ c.if-eq.ensures read.2 says)

pub returns-then-eq-2 : goal.returns-then-eq-2
returns-then-eq-2 g c = let read = c.in_ok-kind.ensures in (read.0, read.1, λ ms says. with_type _ read.0 ms c.args.self _ c.if-eq-2.ensures read.2 says)

pub returns : goal.returns
returns g c = let read = c.in_ok-pass.ensures in (read.0, read.1, λ ms says. with_no_text _ read.0 ms c.args.self c.if-eq.ensures c.if-eq-2.ensures says)
