use Rattle.std.proofs.Common.{◌≡◌, ◌-◌, ◌==◌, false, length, drop}
use Rattle.std.specs.List.{list_any}
use Rattle.logstash_top.proofs.named_files.last_start.Given as goal

abbrev pub invariant-loop-behind : goal.invariant-loop-behind
invariant-loop-behind l = list_any (λ b. b == 47) (drop (length l.path - l.behind) l.path) ≡ false
