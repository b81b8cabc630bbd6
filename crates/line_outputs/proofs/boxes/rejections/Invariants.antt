use Rattle.std.proofs.Common.{◌≡◌, ◌++◌, drop}
use Rattle.line_outputs.specs.NewLetters.{rejections}
use Rattle.line_outputs.proofs.boxes.rejections.Given as goal

abbrev pub invariant-loop-at : goal.invariant-loop-at
invariant-loop-at l = l.parts ++ rejections l.kind l.id (drop l.at l.fates) (drop l.at l.events) ≡ rejections l.kind l.id l.fates l.events
