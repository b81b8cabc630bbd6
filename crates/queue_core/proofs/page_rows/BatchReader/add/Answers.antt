use Rattle.std.proofs.Common.{None}
use Rattle.queue_core.proofs.RowReads.{row_joins, row_added}
use Rattle.queue_core.proofs.page_rows.BatchReader.add.Goals as goal

pub returns-in-None-clause-reading : goal.returns-in-None-clause-reading
returns-in-None-clause-reading c = row_joins c.args.from c.args.place c.args.row c.args.self.now None c.if-self-from.false c.in-None.ensures

pub returns-in_ok-push-in-Some-clause-reading : goal.returns-in_ok-push-in-Some-clause-reading
returns-in_ok-push-in-Some-clause-reading c =
    row_added c.args.from c.args.place c.args.row c.args.self.now c.in-Some.bytes c.given.result c.push.new.self c.if-self-from.false c.in-Some.ensures c.in_ok-push-in-Some.ensures.ok c.given.ensures
