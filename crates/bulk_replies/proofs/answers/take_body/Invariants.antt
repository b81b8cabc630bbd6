use Rattle.std.proofs.Common.{◌≡◌, length}
use Rattle.serde_json.specs.Data.{Members, object}
use Rattle.bulk_replies.specs.Sayings.{said_in}
use Rattle.bulk_replies.proofs.Readings.{Within}
use Rattle.bulk_replies.proofs.answers.take_body.Given as goal

abbrev pub invariant-loop-said : goal.invariant-loop-said
invariant-loop-said g l = (ms : Members) × Within 126 (g.T.Passes.left l.fn.reader) (g.T.Passes.left l.reader) ms × (l.said ≡ said_in (object ms))

abbrev pub decreases-loop-said : goal.decreases-loop-said
decreases-loop-said g l = length (g.T.Passes.left l.reader)
