use Rattle.std.proofs.Common.{sym}
use Rattle.event_text.proofs.Pieces.{opens_last}
use Rattle.event_text.proofs.template.opens_at.Goals as goal

pub returns-then-at-bytes-clause-opens : goal.returns-then-at-bytes-clause-opens
returns-then-at-bytes-clause-opens c = sym (opens_last c.args.bytes.now c.args.at c.if-at-bytes.true)
