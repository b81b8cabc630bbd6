use Rattle.std.proofs.Common.{length}
use Rattle.std.specs.Bool.{then_some}
use Rattle.serde_json.specs.Data.{Items}
use Rattle.bulk_replies.proofs.Readings.{ListWithin}
use Rattle.bulk_replies.proofs.ItemRuns.{SaidSoFar}
use Rattle.bulk_replies.proofs.answers.take_items.Given as goal

abbrev pub invariant-loop-said : goal.invariant-loop-said
invariant-loop-said g l = (before : Items → Items) × ListWithin 125 (g.T.Passes.left l.fn.reader) (g.T.Passes.left l.reader) before × SaidSoFar before (then_some l.all l.said)

abbrev pub decreases-loop-said : goal.decreases-loop-said
decreases-loop-said g l = length (g.T.Passes.left l.reader)
