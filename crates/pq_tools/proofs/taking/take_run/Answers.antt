use Rattle.std.proofs.Common.{rules, ◌≡◌, Err, ◌∙◌}
use Rattle.io_traits.specs.Reads.{bytes_of}
use Rattle.pq_tools.specs.PageRuns.{rows_left}
use Rattle.pq_tools.specs.Repairs.{given}
use Rattle.pq_tools.specs.Salvage.{rows_in, taken}
use Rattle.pq_tools.specs.declared.fault.RepairFault.TheVariants as r
use Rattle.pq_tools.proofs.Takings.{adds_by, end_rows, spends_by, taken_rows}
use Rattle.pq_tools.proofs.taking.take_run.Goals as goal

pub returns-clause-adds : goal.returns-clause-adds
returns-clause-adds g c is =
    let file = bytes_of (g.S.Store.seen c.args.store.now c.args.name.now) in
    let rows = rows_left file c.args.run in
    adds_by g.S.Store (given c.is_behind-gives.result c.args.from rows) (taken c.args.end c.args.from (rows_in file)) c.args.queue.now c.take_rows.new.queue c.args.store.now c.take_rows.new.store
    (λ told. taken_rows file c.args.end c.args.from c.args.run.number rows c.is_behind-gives.result is.first is.rows c.is_behind-gives.ensures) (c.in_ok-count.ensures.adds is.is)

pub returns-clause-end : goal.returns-clause-end
returns-clause-end g c told is =
    let file = bytes_of (g.S.Store.seen c.args.store.now c.args.name.now) in
    c.later.ensures ∙ end_rows file c.args.end c.args.run.number c.in_ok-count.count (rows_left file c.args.run) is.first is.rows (c.in_ok-count.ensures.count told is.is)

pub returns-in_err-count-clause-spent : goal.returns-in_err-count-clause-spent
returns-in_err-count-clause-spent g c same is =
    let out_is : c.take_rows.result ≡ Err r.NumbersSpent = search (same, c.in_err-count.was, c.from_residual.ensures, rules) in
    let file = bytes_of (g.S.Store.seen c.args.store.now c.args.name.now) in
    let rows = rows_left file c.args.run in
    spends_by g.S.Store (given c.is_behind-gives.result c.args.from rows) (taken c.args.end c.args.from (rows_in file)) c.args.queue.now
    (λ told. taken_rows file c.args.end c.args.from c.args.run.number rows c.is_behind-gives.result is.first is.rows c.is_behind-gives.ensures) (c.take_rows.ensures.spent out_is is.is)
