use Rattle.std.proofs.Common.{ap, ◌∙◌, sym, arith, get_or, ◌≡◌}
use Rattle.json.specs.Json.{after_end_array}
use Rattle.bulk_replies.proofs.Spots.{closes_array, no_array_ends}
use Rattle.bulk_replies.proofs.compact.end_array.Goals as goal

pub returns-then-closes : goal.returns-then-closes
returns-then-closes c =
    let f = c.behind_close.ensures in
    (f.within, ap after_end_array (closes_array c.args.text.now c.args.spot c.behind_close.result (omega arith) (grind arith) (sym c.closes.ensures ∙ c.if-closes.true) f))

pub returns-then-begins : goal.returns-then-begins
returns-then-begins c =
    let at = c.args.spot.at in
    let same : get_or c.as_bytes-bytes.result.now at 0 ≡ get_or c.args.text.now at 0 = ap (λ t. get_or t at 0) c.as_bytes-bytes.ensures.value in
    no_array_ends c.args.text.now c.args.spot (omega arith) (omega arith) (λ e. omega arith) (sym c.begins.ensures ∙ c.if-begins.true)
