use Rattle.std.proofs.Common.{Ok, sym, ◌∙◌, ap}
use Rattle.queue_files.specs.Folders.{names_in}
use Rattle.queue_files.specs.Found.{found}
use Rattle.queue_files.specs.Marks.{read_in}
use Rattle.pq_tools.specs.Checks.{said_of}
use Rattle.pq_tools.proofs.OpenCounts.{counted}
use Rattle.pq_tools.proofs.Sayings.{hands_on, says_lost}
use Rattle.pq_tools.proofs.checking.count_rows.Goals as goal

pub returns-in_err-opened-clause-rows : goal.returns-in_err-opened-clause-rows
returns-in_err-opened-clause-rows g c told =
    let names = names_in c.args.folder.now in
    let f = read_in names (g.S.Store.seen c.args.store.now) in
    hands_on c.from_residual.result c.in_err-opened.field-0.0 (said_of names (found f)) c.from_residual.ensures.1
    (says_lost names c.in_err-opened.field-0.0 (found f) (c.in_err-opened.ensures.found told))

pub returns-clause-rows : goal.returns-clause-rows
returns-clause-rows g c told =
    let names = names_in c.args.folder.now in
    let f = read_in names (g.S.Store.seen c.args.store.now) in
    let o = c.in_ok-opened.opened in
    let rows = c.in_ok-opened.ensures.found told in
    ap (said_of names) rows.is_found
    ∙ ap Ok (sym (counted f o c.in_ok-opened.ensures.stated rows.rows rows.is_found (c.in_ok-opened.ensures.reads told)) ∙ sym c.open_rows.ensures)
