use Rattle.std.proofs.Common.{arith}
use Rattle.std.proofs.lemmas.List.{drop_more}
use Rattle.queue_files.proofs.Fallings.{no_tail, bounded_at}
use Rattle.queue_files.proofs.page_scan.first_out_of_order.Goals as goal

pub overflow_add-end : goal.overflow_add-end
overflow_add-end c =
    let bounded = bounded_at c.args.tails.now c.loop-tail.tail-index _ (drop_more c.args.tails.now c.loop-tail.tail-index no_tail c.loop-tail-test.true) c.requires in
    omega (arith, bounded)
