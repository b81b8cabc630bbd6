use Rattle.queue_core.proofs.QueueBatch.{none_left, takes}
use Rattle.queue_core.proofs.laws.first_rows_are_taken.Goals as goal

pub returns : goal.returns
returns c = λ most content v q rows read unread.
    let t = takes most content v q rows read unread in
    (t.s, t.rest, t.is, t.first, t.all, t.left, none_left most content v q rows read unread t.s t.first)
