use Rattle.std.proofs.Common.{arith}
use Rattle.bulk_replies.proofs.Spots.{past_comma}
use Rattle.bulk_replies.proofs.compact.behind_close.Goals as goal

pub returns-then-bytes-at-eq44 : goal.returns-then-bytes-at-eq44
returns-then-bytes-at-eq44 c = past_comma c.args.text.now c.args.at (omega arith) (grind arith)
