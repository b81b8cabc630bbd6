use Rattle.std.proofs.Common.{◌+◌, List, ℕ, map, take, sym, subst}
use Rattle.httparse.specs.Spans.{header_bytes}
use Rattle.bulk_replies.specs.Fields.{values_of}
use Rattle.bulk_replies.specs.Found.{Finds}
use Rattle.bulk_replies.proofs.FieldRuns.{one_named, none_named}
use Rattle.bulk_replies.proofs.fields.find.Goals as goal
use Rattle.bulk_replies.proofs.fields.find.Goals.{then-is_named, else-is_named}

pub loop-header-preserved : goal.loop-header-preserved
loop-header-preserved c =
    let reply = c.args.reply.now in
    let values : List (List ℕ) = values_of c.args.name.now (map (header_bytes reply) (take (c.loop-header.header-index + 1) c.args.headers.now)) in
    elim c.if-is_named.branch [
      | then-is_named w ↦ subst (Finds reply values) (sym w.found-is) (one_named reply c.args.name.now c.args.headers.now c.loop-header.header-index _ c.loop-header-test.true _ w.if-is_named.ensures (w.and-found.ensures reply _ c.loop-header.invariant (c.requires _ _ c.loop-header-test.true).1))
      | else-is_named w ↦ subst (Finds reply values) (sym w.found-is) (none_named reply c.args.name.now c.args.headers.now c.loop-header.header-index _ c.loop-header-test.true _ w.if-is_named.ensures c.loop-header.invariant)
    ]
