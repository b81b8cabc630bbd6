use Rattle.std.proofs.Common.{rules, sym, subst, arith}
use Rattle.io_traits.specs.Reads.{bytes_of}
use Rattle.pq_tools.specs.PageRuns.{IsFirstRun}
use Rattle.pq_tools.proofs.RunSteps.{first_run, is_whole, no_first}
use Rattle.pq_tools.proofs.salvaging.begin_page.Goals as goal

pub returns-in-Ok-clause-rows : goal.returns-in-Ok-clause-rows
returns-in-Ok-clause-rows g c told whole =
    let file = bytes_of (g.S.Store.seen c.args.store.now c.args.name.now) in
    let w = is_whole file c.args.page whole in
    let read = c.in-Ok.ensures.row told (omega (arith, w.long)) in
    subst (IsFirstRun file) (sym c.in_ok-run_of-in-Ok.ensures.run) (first_run file c.args.page w c.in-Ok.row read (search rules) c.requires)

pub returns-in-Err-Damaged-clause-rows : goal.returns-in-Err-Damaged-clause-rows
returns-in-Err-Damaged-clause-rows g c told whole =
    let file = bytes_of (g.S.Store.seen c.args.store.now c.args.name.now) in
    let w = is_whole file c.args.page whole in
    let h = c.in-Err-Damaged.ensures.row told (omega (arith, w.long)) in
    let found = rw c.in-Err-Damaged.field-0-is at h in
    no_first file c.args.page w _ found.1
