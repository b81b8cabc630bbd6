use Rattle.std.proofs.Common.{map, sym, ap, ◌∙◌}
use Rattle.queue_files.specs.Folders.{names_in}
use Rattle.queue_files.specs.Marks.{read_in}
use Rattle.queue_files.specs.Reading.{FindsBelow}
use Rattle.queue_files.specs.declared.sealed_pages.SealedPage.{SealedPage}
use Rattle.queue_files.proofs.ScanReads.{handed_on, none_falls, pages_lost, pages_read, pages_have, found_tail_lost}
use Rattle.queue_files.proofs.page_scan.read_below.Goals as goal

pub returns-in_err-pages-clause-found : goal.returns-in_err-pages-clause-found
returns-in_err-pages-clause-found g c told =
    let names = names_in c.args.folder.now in
    let old = g.S.Store.seen c.args.store.now in
    let folder = read_in names old in
    let s = c.args.head.now in
    let tails = c.in_ok-tails.tails.items in
    let lost = c.in_err-pages.field-0.0 in
    let rises = none_falls folder s c.as_slice.result.now tails c.first_out_of_order.result c.as_slice.ensures.value c.in_default.is c.first_out_of_order.ensures in
    handed_on (FindsBelow names folder s c.args.numbers.now) c.from_residual-in_err-pages.result lost c.from_residual-in_err-pages.ensures.1
    (found_tail_lost folder s c.args.numbers.now tails (c.in_ok-tails.ensures.tails told) rises names lost
    (pages_lost names old (g.S.Store.seen c.read_tails.new.store) (c.read_tails.ensures.same.reads told) c.as_slice-2.result.now tails c.as_slice-2.ensures.value lost (c.in_err-pages.ensures.pages told)))

pub returns-clause-found : goal.returns-clause-found
returns-clause-found g c told = record {
  tails = c.in_ok-tails.ensures.tails told;
  pages = pages_read (names_in c.args.folder.now) (g.S.Store.seen c.args.store.now) (g.S.Store.seen c.read_tails.new.store) (c.read_tails.ensures.same.reads told) c.as_slice-2.result.now c.in_ok-tails.tails.items c.as_slice-2.ensures.value
      c.in_ok-pages.pages.items (c.in_ok-pages.ensures.pages told);
}

pub returns-clause-bytes : goal.returns-clause-bytes
returns-clause-bytes g c told =
    pages_have (names_in c.args.folder.now) (g.S.Store.seen c.args.store.now) (g.S.Store.seen c.read_tails.new.store) (c.read_tails.ensures.same.reads told) c.as_slice-2.result.now c.in_ok-tails.tails.items c.as_slice-2.ensures.value
    (c.in_ok-pages.ensures.bytes told)

pub returns-clause-states : goal.returns-clause-states
returns-clause-states g c = sym (ap (map (λ (t : SealedPage). t.state)) c.as_slice-2.ensures.value) ∙ c.in_ok-pages.ensures.states

pub returns-clause-rises : goal.returns-clause-rises
returns-clause-rises g c folder = none_falls folder c.args.head.now c.as_slice.result.now c.in_ok-tails.tails.items c.first_out_of_order.result c.as_slice.ensures.value c.in_default.is c.first_out_of_order.ensures
