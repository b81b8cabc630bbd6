use Rattle.std.proofs.Common.{◌≡◌}
use Rattle.batch_shop.specs.Started.{jobs_of}
use Rattle.logstash_cli.proofs.hiring.hire_all.Given as goal

abbrev pub invariant-loop : goal.invariant-loop
invariant-loop g l = jobs_of l.shop ≡ jobs_of l.fn.shop
