use Rattle.std.proofs.Common.{length, ap, arith}
use Rattle.line_jobs.proofs.Parting.{next_sent}
use Rattle.line_jobs.proofs.sorting.part.Goals as goal

pub loop-each-preserved : goal.loop-each-preserved
loop-each-preserved c =
    let l = c.loop-each in
    let next = c.in-Some.ensures.steps in
    record {
      so_far = next_sent c.args.target.now c.args.sent l.each-iterator.rest.items l.parted l.invariant.so_far c.next.new.self.rest.items c.in-Some.each c.add.new.self next.0 c.in_ok-add.ensures;
      counted = omega (arith, l.invariant.counted, next.1, ap length next.0);
    }
