use Rattle.std.proofs.Common.{arith}
use Rattle.line_outputs.proofs.Rejecting.{one_more}
use Rattle.line_outputs.proofs.boxes.rejections.Goals as goal

pub loop-at-preserved : goal.loop-at-preserved
loop-at-preserved c =
    one_more c.args.kind.now c.args.id.now c.args.fates.now c.args.events.now c.loop-at.at c.index-fates-at.result c.index-events-at.result c.loop-at.parts c.push_rejection.new.parts (omega (arith, c.loop-at-test.true)) (omega (arith, c.loop-at-test.true, c.requires))
    c.index-fates-at.is c.index-events-at.is c.in_ok-push_rejection.ensures c.loop-at.invariant
