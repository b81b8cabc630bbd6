use Rattle.std.proofs.Common.{arith}
use Rattle.std.proofs.Math.Path.{ap₂}
use Rattle.pq_tools.specs.Counts.{tail_rows}
use Rattle.pq_tools.proofs.OpenCounts.{rows_fit}
use Rattle.pq_tools.proofs.counting.open_rows.Goals as goal

pub with_tails-requires-clause-few : goal.with_tails-requires-clause-few
with_tails-requires-clause-few c =
    omega (arith, ap₂ tail_rows c.as_slice-tails.ensures.value c.as_slice-pages.ensures.value, rows_fit c.args.opened.now c.requires, c.rows_from-top.ensures)
