use Rattle.std.proofs.Common.{length}
use Rattle.serde_json.specs.Data.{Members, object}
use Rattle.bulk_replies.specs.Sayings.{IsSaying}
use Rattle.bulk_replies.proofs.Readings.{Within}
use Rattle.bulk_replies.proofs.item.take_saying.Given as goal

abbrev pub invariant-loop-key : goal.invariant-loop-key
invariant-loop-key g l = (ms : Members) × Within 123 (g.T.Passes.left l.fn.reader) (g.T.Passes.left l.reader) ms × IsSaying (object ms) l.saying

abbrev pub decreases-loop-key : goal.decreases-loop-key
decreases-loop-key g l = length (g.T.Passes.left l.reader)
