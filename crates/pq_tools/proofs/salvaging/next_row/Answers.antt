use Rattle.std.proofs.Common.{rules, ap, arith}
use Rattle.io_traits.specs.Reads.{bytes_of}
use Rattle.io_traits.specs.declared.pages.PageState.{PageState}
use Rattle.pq_tools.proofs.RunSteps.{at_end, no_row, none_left, one_row}
use Rattle.pq_tools.proofs.salvaging.next_row.Goals as goal

pub returns-then-run-eq0-clause-row : goal.returns-then-run-eq0-clause-row
returns-then-run-eq0-clause-row g c told is = none_left (bytes_of (g.S.Store.seen c.args.store.now c.args.name.now)) c.args.run.now (omega (arith, c.if-run-eq0.true))

pub returns-then-run-state-clause-row : goal.returns-then-run-state-clause-row
returns-then-run-state-clause-row g c told is =
    at_end (bytes_of (g.S.Store.seen c.args.store.now c.args.name.now)) c.args.run.now is (omega (arith, c.if-run-state.true, ap (λ (s : PageState). s.length) c.state.ensures))

pub returns-in-Ok-clause-row : goal.returns-in-Ok-clause-row
returns-in-Ok-clause-row g c told is =
    let file = bytes_of (g.S.Store.seen c.args.store.now c.args.name.now) in
    let read = c.in-Ok.ensures.row told is.part (omega (arith, is.whole)) in
    one_row file c.args.run.now is (omega (arith, c.if-run-eq0.false)) (omega (arith, c.if-run-state.false, ap (λ (s : PageState). s.length) c.state.ensures))
    c.in-Ok.row c.read_next.new.block c.saturating_add-run.result read (c.read_next.ensures.part told is.part) (λ less. grind (arith, less, c.saturating_add-run.ensures)) (search rules) c.in-Ok.ensures.next.1

pub returns-in-Err-Damaged-clause-row : goal.returns-in-Err-Damaged-clause-row
returns-in-Err-Damaged-clause-row g c told is =
    let file = bytes_of (g.S.Store.seen c.args.store.now c.args.name.now) in
    let h = c.in-Err-Damaged.ensures.row told is.part (omega (arith, is.whole)) in
    let found = rw c.in-Err-Damaged.field-0-is at h in
    no_row file c.args.run.now is (omega (arith, c.if-run-eq0.false)) (omega (arith, c.if-run-state.false, ap (λ (s : PageState). s.length) c.state.ensures)) _ found.1
