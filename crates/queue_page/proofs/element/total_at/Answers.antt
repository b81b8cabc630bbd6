use Rattle.std.proofs.Common.{◌∙◌, arith}
use Rattle.queue_page.proofs.ElementReads.{code_bad, code_over, code_good}
use Rattle.queue_page.proofs.element.total_at.Goals as goal

pub returns-then-number-spot-clause-total : goal.returns-then-number-spot-clause-total
returns-then-number-spot-clause-total c =
    let s = c.args.spot.now in
    code_bad c.number_in-number.result c.size_in.result s.number s.place s.end c.args.head.now c.number_in-number.ensures c.size_in.ensures c.if-number-spot.true

pub returns-then-spot-total-clause-total : goal.returns-then-spot-total-clause-total
returns-then-spot-total-clause-total c =
    let s = c.args.spot.now in
    code_over c.number_in-number.result c.from-total.result s.number s.place s.end c.args.head.now c.number_in-number.ensures (c.from-total.ensures ∙ c.size_in.ensures) c.if-number-spot.false c.requires
    (omega arith)

pub returns-clause-total : goal.returns-clause-total
returns-clause-total c =
    let s = c.args.spot.now in
    code_good c.number_in-number.result c.from-total.result s.number s.place s.end c.args.head.now c.number_in-number.ensures (c.from-total.ensures ∙ c.size_in.ensures) c.if-number-spot.false (omega arith)
