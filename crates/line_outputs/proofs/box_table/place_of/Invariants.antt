use Rattle.std.proofs.Common.{◌≡◌, ◌+◌, drop}
use Rattle.line_outputs.specs.BoxTables.{box_place}
use Rattle.line_outputs.proofs.box_table.place_of.Given as goal

abbrev pub invariant-loop-at : goal.invariant-loop-at
invariant-loop-at g l = l.at + box_place g.X.OutputCall.number l.number (drop l.at l.outputs) ≡ box_place g.X.OutputCall.number l.number l.outputs
