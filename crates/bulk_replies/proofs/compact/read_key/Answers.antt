use Rattle.std.proofs.Common.{ap, sym, ◌∙◌, arith}
use Rattle.json.specs.Json.{read_key}
use Rattle.bulk_replies.proofs.Spots.{begins_key, begun, closes_object}
use Rattle.bulk_replies.proofs.compact.read_key.Goals as goal

pub returns-then-begins-clause-gives : goal.returns-then-begins-clause-gives
returns-then-begins-clause-gives c =
    let d = c.args.text.now in
    let s = c.in_ok-key in
    ap read_key (begun d c.args.spot _ _ (sym c.begins.ensures ∙ c.if-begins.true) (begins_key d s.key.now c.args.spot.at s.end s.ensures (omega (arith, s.ensures.within)) (grind arith)))

pub returns-then-closes-clause-gives : goal.returns-then-closes-clause-gives
returns-then-closes-clause-gives c =
    ap read_key (closes_object c.args.text.now c.args.spot c.behind_close.result (omega arith) (grind arith) (sym c.closes.ensures ∙ c.if-closes.true) c.behind_close.ensures)
