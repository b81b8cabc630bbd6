use Rattle.std.proofs.Common.{◌≡◌, ◌≤◌, ◌-◌, length, Ok, Err, ap, ◌∙◌, sym, subst}
use Rattle.io_traits.specs.Reads.{bytes_of}
use Rattle.io_traits.proofs.Looking.{nothing_then}
use Rattle.queue_page.specs.Answers.{Answers}
use Rattle.queue_page.specs.Blocks.{IsPart, left_of}
use Rattle.queue_page.specs.Elements.{element_at}
use Rattle.queue_page.specs.declared.row.PageRow.{PageRow}
use Rattle.queue_page.proofs.Told.{over}
use Rattle.queue_core.specs.Batching.{end_of, rows_read, behind_row}
use Rattle.queue_core.proofs.RowReads.{handed_on, rows_end, rows_full, row_more, row_closes, row_lost, closed_over}
use Rattle.queue_core.proofs.page_rows.BatchReader.read_page.Goals as goal

pub returns-clause-rows : goal.returns-clause-rows
returns-clause-rows g c = λ told part long.
    let p = c.args.page.now in
    let r = c.loop-self.self in
    let file = bytes_of (g.S.Store.seen c.args.store.now c.args.name.now) in
    let end = ap (λ n. rows_read c.args.name.now p c.args.from file (n - c.args.self.now.number) c.args.self.now) (sym c.end_of-end.ensures) in
    end ∙ c.loop-self.invariant.so_far told part long ∙ rows_end c.args.name.now p c.args.from file c.end_of-end.result r c.loop-self-test.false

pub returns-then-is_over-clause-rows : goal.returns-then-is_over-clause-rows
returns-then-is_over-clause-rows g c = λ told part long.
    let p = c.args.page.now in
    let r = c.loop-self.self in
    let file = bytes_of (g.S.Store.seen c.args.store.now c.args.name.now) in
    let end = ap (λ n. rows_read c.args.name.now p c.args.from file (n - c.args.self.now.number) c.args.self.now) (sym c.end_of-end.ensures) in
    end ∙ c.loop-self.invariant.so_far told part long ∙ rows_full c.args.name.now p c.args.from file c.end_of-end.result r (sym c.is_over.ensures ∙ c.if-is_over.true)

pub returns-then-not-branch-clause-rows : goal.returns-then-not-branch-clause-rows
returns-then-not-branch-clause-rows g c = λ told part long.
    let name = c.args.name.now in
    let p = c.args.page.now in
    let r = c.loop-self.self in
    let inv = c.loop-self.invariant in
    let file = bytes_of (g.S.Store.seen c.args.store.now name) in
    let there = c.place_in-place.ensures.place in
    let end = ap (λ n. rows_read name p c.args.from file (n - c.args.self.now.number) c.args.self.now) (sym c.end_of-end.ensures) in
    let read = over (g.S.Store.seen c.loop-self.store) (g.S.Store.seen c.args.store.now) name c.loop-self.block
    (λ f. p.state.length ≤ length f → element_at p.version r.number c.place_in-place.result (left_of f c.place_in-place.result p.state.length) ≡ Ok c.in_ok-row.row) (inv.same.reads told) (c.in_ok-row.ensures.row told) (inv.part told part) long in
    end ∙ inv.so_far told part long
    ∙ row_closes name p c.args.from file c.end_of-end.result r c.loop-self-test.true (sym c.is_over.ensures ∙ c.if-is_over.false) c.in_ok-row.row
    (subst (λ n. element_at p.version r.number n (left_of file n p.state.length) ≡ Ok c.in_ok-row.row) there read) c.add.new.self
    (c.in_ok-add.ensures.reading ∙ ap (λ n. behind_row c.args.from n c.in_ok-row.row r) there) (closed_over c.in_ok-add.field-0 c.add.new.self c.in_ok-add.ensures.closed c.if-not-branch.true)

pub loop-self-preserved : goal.loop-self-preserved
loop-self-preserved g c =
    let name = c.args.name.now in
    let p = c.args.page.now in
    let r = c.loop-self.self in
    let inv = c.loop-self.invariant in
    let there = c.place_in-place.ensures.place in
    record {
      same = nothing_then g.S.Store c.args.store.now c.loop-self.store c.read_next.new.store inv.same c.read_next.ensures.same;
      faults = c.in_ok-row.ensures.cause.same (λ is. cc) ∙ inv.faults;
      part = λ told part. over (g.S.Store.seen c.loop-self.store) (g.S.Store.seen c.args.store.now) name c.loop-self.block (λ f. IsPart f c.read_next.new.block) (inv.same.reads told) (c.read_next.ensures.part told) (inv.part told part);
      so_far = λ told part long.
          let file = bytes_of (g.S.Store.seen c.args.store.now name) in
          let read = over (g.S.Store.seen c.loop-self.store) (g.S.Store.seen c.args.store.now) name c.loop-self.block
          (λ f. p.state.length ≤ length f → element_at p.version r.number c.place_in-place.result (left_of f c.place_in-place.result p.state.length) ≡ Ok c.in_ok-row.row) (inv.same.reads told) (c.in_ok-row.ensures.row told) (inv.part told part) long in
          inv.so_far told part long
          ∙ row_more name p c.args.from file c.end_of-end.result r c.loop-self-test.true (sym c.is_over.ensures ∙ c.if-is_over.false) c.in_ok-row.row
          (subst (λ n. element_at p.version r.number n (left_of file n p.state.length) ≡ Ok c.in_ok-row.row) there read) c.add.new.self
          (c.in_ok-add.ensures.reading ∙ ap (λ n. behind_row c.args.from n c.in_ok-row.row r) there) (c.in_ok-add.ensures.more c.if-not-branch.false);
    }

pub returns-in_err-row-clause-rows : goal.returns-in_err-row-clause-rows
returns-in_err-row-clause-rows g c = λ told part long.
    let name = c.args.name.now in
    let p = c.args.page.now in
    let r = c.loop-self.self in
    let inv = c.loop-self.invariant in
    let file = bytes_of (g.S.Store.seen c.args.store.now name) in
    let fault = c.in_err-row.field-0.0 in
    let there = c.place_in-place.ensures.place in
    let end = ap (λ n. rows_read name p c.args.from file (n - c.args.self.now.number) c.args.self.now) (sym c.end_of-end.ensures) in
    let lost = over (g.S.Store.seen c.loop-self.store) (g.S.Store.seen c.args.store.now) name c.loop-self.block
    (λ f. p.state.length ≤ length f → Answers (λ (row : PageRow). row) name (Err fault) (element_at p.version r.number c.place_in-place.result (left_of f c.place_in-place.result p.state.length))) (inv.same.reads told) (c.in_err-row.ensures.row told) (inv.part told part) long in
    let at_place = subst (λ n. Answers (λ (row : PageRow). row) name (Err fault) (element_at p.version r.number n (left_of file n p.state.length))) there lost in
    handed_on _ c.from_residual.result fault (rows_read name p c.args.from file (end_of p - c.args.self.now.number) c.args.self.now)
    (rows_read name p c.args.from file (c.end_of-end.result - r.number) r) c.from_residual.ensures.1 (end ∙ inv.so_far told part long)
    (λ view. row_lost name p c.args.from file c.end_of-end.result r c.loop-self-test.true (sym c.is_over.ensures ∙ c.if-is_over.false) view fault at_place)
