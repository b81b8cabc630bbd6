use Rattle.std.proofs.Common.{◌+◌, ◌*◌, ◌∷◌, length}
use Rattle.json.specs.Token.{Token}
use Rattle.serde_json.specs.Data.{Items, Members}
use Rattle.bulk_replies.proofs.Readings.{ListWithin, Within}
use Rattle.bulk_replies.proofs.passing.+pass.Given as goal

abbrev pub decreases-pass : goal.decreases-pass
decreases-pass g l = 2 * l.depth

abbrev pub decreases-pass_items : goal.decreases-pass_items
decreases-pass_items g l = 2 * l.depth + 1

abbrev pub decreases-pass_members : goal.decreases-pass_members
decreases-pass_members g l = 2 * l.depth + 1

abbrev pub invariant-pass_items-loop-reader : goal.invariant-pass_items-loop-reader
invariant-pass_items-loop-reader g l = (before : Items → Items) × ListWithin l.depth (Token.begin_array ∷ g.T.Passes.left l.initial.reader) (g.T.Passes.left l.reader) before

abbrev pub decreases-pass_items-loop-reader : goal.decreases-pass_items-loop-reader
decreases-pass_items-loop-reader g l = length (g.T.Passes.left l.reader)

abbrev pub invariant-pass_members-loop-reader : goal.invariant-pass_members-loop-reader
invariant-pass_members-loop-reader g l = (ms : Members) × Within l.depth (Token.begin_object ∷ g.T.Passes.left l.initial.reader) (g.T.Passes.left l.reader) ms

abbrev pub decreases-pass_members-loop-reader : goal.decreases-pass_members-loop-reader
decreases-pass_members-loop-reader g l = length (g.T.Passes.left l.reader)
