use Rattle.std.proofs.Common.{arith}
use Rattle.bulk_replies.proofs.Spots.{begins_key, begins_string}
use Rattle.bulk_replies.proofs.compact.key_or_string.Goals as goal

pub returns-then-bytes-end-eq58 : goal.returns-then-bytes-end-eq58
returns-then-bytes-end-eq58 c =
    let s = c.in_ok-content in
    begins_key c.args.text.now s.content.now c.args.at s.end s.ensures (omega arith) (grind arith)

pub returns : goal.returns
returns c =
    let s = c.in_ok-content in
    let f = c.in_ok-behind.ensures in
    begins_string c.args.text.now s.content.now c.args.at s.end c.in_ok-behind.field-0 s.ensures f.0 f.1
