use Rattle.std.proofs.Common.{◌≡◌, ◌≤◌, length}
use Rattle.io_real.proofs.kept_files.read_up_to.Given as goal

abbrev pub invariant-loop : goal.invariant-loop
invariant-loop l = record { within : l.count ≤ length l.into; same : length l.into ≡ length l.fn.into }
