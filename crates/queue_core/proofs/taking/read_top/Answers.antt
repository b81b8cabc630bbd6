use Rattle.std.proofs.Common.{◌≤◌, ◌+◌, ◌-◌, List, ℕ, length, Result, ◌∙◌, sym, subst, arith}
use Rattle.io_traits.specs.declared.queue_faults.Damage.{Damage}
use Rattle.io_traits.specs.Reads.{bytes_of}
use Rattle.queue_page.specs.Blocks.{OnFile}
use Rattle.queue_core.specs.Batching.{rows_read, Finds}
use Rattle.queue_core.specs.Calls.{end_of}
use Rattle.queue_core.specs.Taking.{stand}
use Rattle.queue_core.specs.Views.{OpenPageView}
use Rattle.queue_core.specs.declared.page_rows.BatchReader.{BatchReader}
use Rattle.queue_core.proofs.PagesRead.{page_found, page_passed}
use Rattle.queue_core.proofs.taking.read_top.Goals as goal

pub returns-then-is_passed-clause-rows : goal.returns-then-is_passed-clause-rows
returns-then-is_passed-clause-rows g c = λ told part kept.
    page_passed (g.S.Store.seen c.args.store.now) c.args.held.now (stand c.args.page.now c.args.reading.now) (sym c.is_passed.ensures ∙ c.if-is_passed.true)

pub returns-clause-rows : goal.returns-clause-rows
returns-clause-rows g c = λ told part kept.
    let o = c.args.held.now in
    let p = c.held.inside in
    let content = g.S.Store.seen c.args.store.now in
    let file = bytes_of (content o.file) in
    let r = c.enter.new.reading in
    let grown = c.add_kept.new.self in
    let named = subst (λ (name : List ℕ). OnFile g.S.Store c.args.store.now name c.enter.new.block (λ file. p.page.state.length ≤ length file
    → Finds (λ _. c.read_page.new.self) c.read_page.result (rows_read name p.page p.from file (p.page.state.least + p.page.state.count - grown.number) grown))) c.as_str.ensures c.read_page.ensures.rows in
    let read = subst (λ (o : OpenPageView). OnFile g.S.Store c.args.store.now o.file c.enter.new.block (λ file. o.page.state.length ≤ length file
    → Finds (λ _. c.read_page.new.self) c.read_page.result (rows_read o.file o.page o.from file (end_of o - grown.number) grown))) c.held.view_is named in
    let long : o.page.state.length ≤ length file = omega (arith, kept.long) in
    page_found content o (stand c.args.page.now c.args.reading.now) c.read_page.result r c.read_page.new.self c.enter.new.page (sym c.is_passed.ensures ∙ c.if-is_passed.false)
    c.in_ok-enter.ensures.reading c.in_ok-enter.ensures.page
    (subst (λ (w : Result BatchReader Damage). Finds (λ _. c.read_page.new.self) c.read_page.result w) (sym (c.in_ok-add_kept.ensures.rows file kept)) (read told (c.in_ok-enter.ensures.part file part) long))
