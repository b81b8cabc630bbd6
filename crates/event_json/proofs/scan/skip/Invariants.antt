use Rattle.std.proofs.Common.{◌≡◌, length}
use Rattle.event_json.specs.Reading.{skip}
use Rattle.event_json.proofs.scan.skip.Given as goal

abbrev pub invariant-loop-rest : goal.invariant-loop-rest
invariant-loop-rest l = skip l.rest ≡ skip l.bytes

abbrev pub decreases-loop-rest : goal.decreases-loop-rest
decreases-loop-rest l = length l.rest
