use Rattle.std.proofs.Common.{◌≡◌, ◌++◌, ◌∷◌, [], List, Ok, Err, sym, ap, ◌∙◌, subst}
use Rattle.io_traits.specs.Reads.{bytes_of}
use Rattle.queue_page.specs.Views.{PageBufferView}
use Rattle.queue_core.specs.Batching.{Finds}
use Rattle.queue_core.specs.Taking.{Stand, stand, begun, pages_read, AreThere, KeptIn}
use Rattle.queue_core.specs.Views.{CursorView, OpenPageView}
use Rattle.queue_core.specs.declared.page_rows.BatchReader.{BatchReader}
use Rattle.queue_core.specs.declared.taking.RowsRead.{RowsRead}
use Rattle.queue_core.proofs.PagesRead.{any_view}
use Rattle.queue_core.proofs.taking.read_from.Goals as goal

pub returns-in-Ok-clause-rows : goal.returns-in-Ok-clause-rows
returns-in-Ok-clause-rows g c = λ names told there kept.
    let old = g.S.Store.seen c.args.store.now in
    let file = bytes_of (old c.args.top.now.file) in
    let pages : List OpenPageView = c.args.tails.now ++ c.args.top.now ∷ [] in
    let cursor = c.cursor.inside in
    let same = c.cursor.view_is ∙ c.begun-reading.ensures.cursor in
    let made = c.begun-reading.ensures.reading ∙ ap (λ (cur : CursorView). (begun c.args.most cur).reading) (sym same) in
    subst (λ (cur : CursorView). AreThere names old cur.page cur.block pages → KeptIn c.args.top.now file cur.kept → pages_read old pages (begun c.args.most cur) ≡ Ok (stand c.read_rows.new.page c.in-Ok.read.reading)) same
    (λ there kept. ap (λ (r : BatchReader). pages_read old pages (stand cursor.page r)) (sym made)
    ∙ c.in-Ok.ensures.rows names told (subst (λ (b : PageBufferView). AreThere names old cursor.page b pages) (sym c.replace-block.ensures.value) there) kept) there kept

pub returns-in-Err-clause-rows : goal.returns-in-Err-clause-rows
returns-in-Err-clause-rows g c = λ names told there kept.
    let old = g.S.Store.seen c.args.store.now in
    let file = bytes_of (old c.args.top.now.file) in
    let pages : List OpenPageView = c.args.tails.now ++ c.args.top.now ∷ [] in
    let cursor = c.cursor.inside in
    let same = c.cursor.view_is ∙ c.begun-reading.ensures.cursor in
    let made = c.begun-reading.ensures.reading ∙ ap (λ (cur : CursorView). (begun c.args.most cur).reading) (sym same) in
    let fault = c.in-Err.fault in
    let view : RowsRead → Stand = λ read. stand c.read_rows.new.page read.reading in
    let lost = subst (λ (cur : CursorView). AreThere names old cur.page cur.block pages → KeptIn c.args.top.now file cur.kept → Finds view (Err fault) (pages_read old pages (begun c.args.most cur))) same
    (λ there kept. subst (λ (r : BatchReader). Finds view (Err fault) (pages_read old pages (stand cursor.page r))) made
    (c.in-Err.ensures.rows names told (subst (λ (b : PageBufferView). AreThere names old cursor.page b pages) (sym c.replace-block.ensures.value) there) kept)) there kept in
    let other : RowsRead → Stand = λ read. stand cursor.page read.reading in
    any_view old view other fault (pages_read old pages (begun c.args.most c.args.cursor.now)) lost
