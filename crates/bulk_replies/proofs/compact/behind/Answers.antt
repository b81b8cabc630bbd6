use Rattle.std.proofs.Common.{inl, arith}
use Rattle.bulk_replies.proofs.Spots.{past_comma, seen}
use Rattle.bulk_replies.proofs.compact.behind.Goals as goal

pub returns-in-44 : goal.returns-in-44
returns-in-44 c =
    let is = seen c.args.at c.as_bytes-bytes.ensures.value c.in-44.is in
    (record { within = omega arith; byte = inl is }, past_comma c.args.text.now c.args.at (omega arith) is)
