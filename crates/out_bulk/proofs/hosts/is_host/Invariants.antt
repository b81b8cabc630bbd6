use Rattle.std.proofs.Common.{◌≡◌, drop}
use Rattle.out_bulk.specs.Hosts.{is_host}
use Rattle.out_bulk.proofs.hosts.is_host.Given as goal

abbrev pub invariant-loop-at : goal.invariant-loop-at
invariant-loop-at l = is_host l.text ≡ is_host (drop l.at l.text)
