use Rattle.std.proofs.Common.{◌≡◌, drop}
use Rattle.logstash_top.specs.Checks.{targets_checked}
use Rattle.logstash_top.proofs.checks.check_targets.Given as goal

abbrev pub invariant-loop-target : goal.invariant-loop-target
invariant-loop-target l = targets_checked l.folder (drop l.target-index l.targets) ≡ targets_checked l.folder l.targets
