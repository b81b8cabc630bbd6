use Rattle.std.proofs.Common.{◌≡◌, ◌++◌, ◌+◌, drop}
use Rattle.logstash_top.specs.Outcomes.{ids_from}
use Rattle.logstash_top.proofs.top.input_ids.Given as goal

abbrev pub invariant-loop-at : goal.invariant-loop-at
invariant-loop-at l = l.ids ++ ids_from (l.at + 1) (drop l.at l.inputs) ≡ ids_from 1 l.inputs
