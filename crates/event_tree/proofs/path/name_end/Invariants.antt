use Rattle.std.proofs.Common.{◌-◌, take, drop}
use Rattle.event_tree.specs.PathTexts.{NoBracket}
use Rattle.event_tree.proofs.path.name_end.Given as goal

abbrev pub invariant-loop-at : goal.invariant-loop-at
invariant-loop-at l = NoBracket (take (l.at - l.from) (drop l.from l.bytes))
