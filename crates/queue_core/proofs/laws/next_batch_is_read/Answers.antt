use Rattle.queue_core.proofs.NextBatches.{batch_got, batch_reads}
use Rattle.queue_core.proofs.laws.next_batch_is_read.Goals as goal

pub returns : goal.returns
returns c = λ content pages rows s still rise stands.
    let reads = batch_reads content 0 pages rows s rise stands in
    (reads.next, reads.is, batch_got content pages rows s reads.next still reads.goes_on, reads.stands, reads.given)
