use Rattle.std.proofs.Common.{◌≡◌, length}
use Rattle.std.specs.Vec.Iter.{into_iter_len}
use Rattle.line_jobs.specs.Deliveries.{parted}
use Rattle.line_jobs.proofs.Parting.{with_all}
use Rattle.line_jobs.proofs.sorting.part.Given as goal

abbrev pub invariant-loop-each : goal.invariant-loop-each
invariant-loop-each l = record {
  so_far : with_all l.target l.each-iterator.rest.items l.parted ≡ parted l.target l.fn.sent;
  counted : into_iter_len l.each-iterator ≡ length l.each-iterator.rest.items;
}
