use Rattle.std.proofs.Common.{arith}
use Rattle.json.specs.Ascii.{true_text, false_text, null_text}
use Rattle.bulk_replies.proofs.Lexemes.{true_there, false_there, null_there, stands_first}
use Rattle.bulk_replies.proofs.compact.which_literal.Goals as goal

pub returns-then-starts_with : goal.returns-then-starts_with
returns-then-starts_with c =
    let d = c.args.bytes.now in
    let at = c.args.at in
    true_there d at (omega arith) (stands_first d true_text at c.starts_with.result c.starts_with.ensures.value c.if-starts_with.true)

pub returns-then-starts_with-2 : goal.returns-then-starts_with-2
returns-then-starts_with-2 c =
    let d = c.args.bytes.now in
    let at = c.args.at in
    false_there d at (omega arith) (stands_first d false_text at c.starts_with-2.result c.starts_with-2.ensures.value c.if-starts_with-2.true)

pub returns-then-starts_with-3 : goal.returns-then-starts_with-3
returns-then-starts_with-3 c =
    let d = c.args.bytes.now in
    let at = c.args.at in
    null_there d at (omega arith) (stands_first d null_text at c.starts_with-3.result c.starts_with-3.ensures.value c.if-starts_with-3.true)
