use Rattle.queue_core.proofs.NextRows.{next_rows, rows_got}
use Rattle.queue_core.proofs.laws.next_rows_are_read.Goals as goal

pub returns : goal.returns
returns c = λ name p from file rows r still long within els.
    let reads = next_rows name p from file long rows r still within els in
    (reads.next, reads.is, rows_got name p from file long rows r reads.next reads.on, reads.on)
