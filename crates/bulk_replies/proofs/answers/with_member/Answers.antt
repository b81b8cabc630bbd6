use Rattle.bulk_replies.proofs.Additions.{with_items, with_no_items}
use Rattle.bulk_replies.proofs.Readings.{takes_more}
use Rattle.bulk_replies.proofs.answers.with_member.Goals as goal

pub returns-then-eq : goal.returns-then-eq
returns-then-eq g c = takes_more _ _ 126 _ _ _ _ _ c.take_items.ensures (λ d said read ms says. with_items _ d ms said c.if-eq.ensures read)

pub returns : goal.returns
returns g c = let read = c.in_ok-pass.ensures in (read.0, read.1, λ ms says. with_no_items _ read.0 ms _ c.if-eq.ensures says)
