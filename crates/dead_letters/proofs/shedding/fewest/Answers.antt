use Rattle.std.proofs.Common.{◌∙◌, sym, arith}
use Rattle.dead_letters.proofs.Sheds.{sum_left, segments_stop, segments_end, segments_go}
use Rattle.dead_letters.proofs.shedding.fewest.Goals as goal

pub returns-then-older-segments-clause-fewest : goal.returns-then-older-segments-clause-fewest
returns-then-older-segments-clause-fewest c =
    let inv = c.loop-size.invariant in
    inv.at ∙ sym (segments_end c.args.limit c.args.added c.args.segments.now c.loop-size.size-index (omega (arith, c.if-older-segments.true, inv.at))) ∙ inv.rest

pub returns-then-left-from-clause-fewest : goal.returns-then-left-from-clause-fewest
returns-then-left-from-clause-fewest c =
    let inv = c.loop-size.invariant in
    inv.at ∙ sym (segments_stop c.args.limit c.args.added c.args.segments.now c.loop-size.size-index c.loop-size-test.true (omega (arith, c.if-left-from.true, c.from.ensures, inv.left))) ∙ inv.rest

pub loop-size-preserved : goal.loop-size-preserved
loop-size-preserved c =
    let inv = c.loop-size.invariant in
    let i = c.loop-size.size-index in
    let segments = c.args.segments.now in
    let more = segments_go c.args.limit c.args.added segments i (omega (arith, c.loop-size-test.true, c.if-older-segments.false, inv.at)) (omega (arith, c.if-left-from.false, c.from.ensures, inv.left)) in
    record {
      at = omega (arith, inv.at);
      left = omega (arith, inv.left, sum_left segments i c.loop-size-test.true, c.from-left.ensures);
      rest = sym more ∙ inv.rest;
    }

pub returns-clause-fewest : goal.returns-clause-fewest
returns-clause-fewest c =
    let inv = c.loop-size.invariant in
    inv.at ∙ sym (segments_end c.args.limit c.args.added c.args.segments.now c.loop-size.size-index (omega (arith, c.loop-size-test.false))) ∙ inv.rest
