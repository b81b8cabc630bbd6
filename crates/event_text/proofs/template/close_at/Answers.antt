use Rattle.std.proofs.Common.{arith}
use Rattle.event_text.proofs.template.close_at.Goals as goal

pub returns-then-bytes-at-eq125-clause-next : goal.returns-then-bytes-at-eq125-clause-next
returns-then-bytes-at-eq125-clause-next c = (omega (arith, c.loop-at.auto.at), c.loop-at.invariant, λ after within. omega (arith, c.if-bytes-at-eq125.true))

pub returns-clause-next : goal.returns-clause-next
returns-clause-next c = (omega arith, λ k low high. c.loop-at.invariant k low (omega (arith, high, c.loop-at-test.false)), λ after within. absurd (omega (arith, within)))
