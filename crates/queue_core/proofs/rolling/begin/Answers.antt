use Rattle.std.proofs.Common.{◌≡◌, ◌++◌, IsTrue, List, Some, length, sym, ◌∙◌, ap, subst, arith}
use Rattle.io_traits.specs.Reads.{bytes_of}
use Rattle.io_traits.specs.Moments.{ReadsBeside}
use Rattle.queue_page.specs.Grammar.{row_framed, IsNext}
use Rattle.queue_page.specs.Pages.{with_element}
use Rattle.queue_page.specs.Views.{PageView}
use Rattle.queue_files.specs.Ready.{RowKept, RowReady}
use Rattle.queue_core.specs.Calls.{end_of}
use Rattle.queue_core.proofs.MarkRuns.{can_given}
use Rattle.queue_core.proofs.OwnFiles.{recorded_first, then_begun, then_added}
use Rattle.queue_core.proofs.WriteRuns.{begun, begun_count, begun_length, head_no_checkpoint, head_no_page, keeps_added, keeps_begun, keeps_mark, next_element, place_begun}
use Rattle.queue_core.proofs.rolling.begin.Goals as goal

pub mark_pages-requires : goal.mark_pages-requires
mark_pages-requires g c =
    let b = c.requires.plan.1 in
    can_given g.S.Store c.requires.plan.0 b.plan.given c.args.store.now c.args.store.now b.plan.named c.args.marks.now b.plan.marks_are b.ready

pub returns-in_err-mark_pages-clause-keeps : goal.returns-in_err-mark_pages-clause-keeps
returns-in_err-mark_pages-clause-keeps g c v plan ready =
    keeps_mark g.S.Store g.met.S.Store.images_tell v c.args.marks.now c.args.next.now c.args.frame.now plan c.args.store.now ready c.mark_pages.new.store c.mark_pages.ensures.keeps

pub begin_page-requires-clause-place : goal.begin_page-requires-clause-place
begin_page-requires-clause-place g c =
    let b = c.requires.plan.1 in
    place_begun g.S.Store g.met.S.Store.images_tell c.requires.plan.0 c.args.marks.now c.args.next.now c.args.frame.now b.plan c.args.store.now b.ready c.mark_pages.new.store c.mark_pages.ensures.keeps c.in_ok-mark_pages.ensures.settled

pub begin_page-requires-clause-checkpoint : goal.begin_page-requires-clause-checkpoint
begin_page-requires-clause-checkpoint g c =
    let b = c.requires.plan.1 in
    head_no_checkpoint g.S.Store g.met.S.Store.images_tell c.requires.plan.0 c.args.marks.now c.args.next.now c.args.frame.now b.plan c.args.store.now b.ready c.mark_pages.new.store c.mark_pages.ensures.keeps

pub begin_page-requires-clause-file : goal.begin_page-requires-clause-file
begin_page-requires-clause-file g c =
    let b = c.requires.plan.1 in
    head_no_page g.S.Store g.met.S.Store.images_tell c.requires.plan.0 c.args.marks.now c.args.next.now c.args.frame.now b.plan c.args.store.now b.ready c.mark_pages.new.store c.mark_pages.ensures.keeps

pub returns-in_err-begin_page-clause-keeps : goal.returns-in_err-begin_page-clause-keeps
returns-in_err-begin_page-clause-keeps g c v plan ready =
    keeps_begun g.S.Store g.met.S.Store.images_tell v c.args.marks.now c.args.next.now c.args.frame.now plan c.args.store.now ready c.mark_pages.new.store c.mark_pages.ensures.keeps
    c.in_ok-mark_pages.ensures.settled c.in_ok-mark_pages.ensures.records c.begin_page.new.store c.begin_page.ensures.keeps

pub add_row-requires-clause-element : goal.add_row-requires-clause-element
add_row-requires-clause-element g c =
    let b = c.requires.plan.1 in
    let v = c.requires.plan.0 in (
      row_framed (end_of v.top) b.framed.origin b.framed.event 1,
      subst (λ (x : PageView). IsNext x (row_framed (end_of v.top) b.framed.origin b.framed.event 1) c.args.frame.now) (sym c.start-page.ensures)
          (next_element g.S.Store g.met.S.Store.images_tell v c.args.marks.now c.args.next.now c.args.frame.now b.plan c.args.store.now b.ready c.mark_pages.new.store c.mark_pages.ensures.keeps
          b.framed.origin b.framed.event b.framed.is),
    )

pub add_row-requires-clause-few : goal.add_row-requires-clause-few
add_row-requires-clause-few g c =
    let b = c.requires.plan.1 in
    omega (
      arith,
      begun_count g.S.Store g.met.S.Store.images_tell c.requires.plan.0 c.args.marks.now c.args.next.now c.args.frame.now b.plan c.args.store.now b.ready c.mark_pages.new.store c.mark_pages.ensures.keeps,
      ap (λ (x : PageView). x.state.count) c.start-page.ensures,
    )

pub add_row-requires-clause-fits : goal.add_row-requires-clause-fits
add_row-requires-clause-fits g c =
    let b = c.requires.plan.1 in
    omega (
      arith,
      begun_length g.S.Store g.met.S.Store.images_tell c.requires.plan.0 c.args.marks.now c.args.next.now c.args.frame.now b.plan c.args.store.now b.ready c.mark_pages.new.store c.mark_pages.ensures.keeps,
      ap (λ (x : PageView). x.state.length) c.start-page.ensures,
      c.requires.short,
    )

pub returns-in_err-add_row-clause-keeps : goal.returns-in_err-add_row-clause-keeps
returns-in_err-add_row-clause-keeps g c v plan ready =
    keeps_added g.S.Store g.met.S.Store.images_tell v c.args.marks.now c.args.next.now c.args.frame.now plan c.args.store.now ready c.mark_pages.new.store c.mark_pages.ensures.keeps
    c.in_ok-mark_pages.ensures.settled c.in_ok-mark_pages.ensures.records c.begin_page.new.store c.begin_page.ensures.keeps c.requires.short c.add_row.new.store c.in_ok-begin_page.ensures.ready c.begin_page.ensures.beside.reads
    (subst (λ (n : List _). RowKept g.S.Store n c.args.frame.now c.begin_page.new.store c.add_row.new.store) c.as_str.ensures c.add_row.ensures.keeps)

pub returns-clause-keeps : goal.returns-clause-keeps
returns-clause-keeps g c v plan ready =
    keeps_added g.S.Store g.met.S.Store.images_tell v c.args.marks.now c.args.next.now c.args.frame.now plan c.args.store.now ready c.mark_pages.new.store c.mark_pages.ensures.keeps
    c.in_ok-mark_pages.ensures.settled c.in_ok-mark_pages.ensures.records c.begin_page.new.store c.begin_page.ensures.keeps c.requires.short c.add_row.new.store c.in_ok-begin_page.ensures.ready c.begin_page.ensures.beside.reads
    (subst (λ (n : List _). RowKept g.S.Store n c.args.frame.now c.begin_page.new.store c.add_row.new.store) c.as_str.ensures c.add_row.ensures.keeps)

pub returns-clause-page : goal.returns-clause-page
returns-clause-page g c = c.in_ok-add_row.ensures.page ∙ ap (λ (x : PageView). with_element x (length c.args.frame.now)) c.start-page.ensures

pub returns-clause-adds : goal.returns-clause-adds
returns-clause-adds g c v plan ready =
    begun g.S.Store g.met.S.Store.images_tell v c.args.marks.now c.args.next.now c.args.frame.now plan c.args.store.now ready c.mark_pages.new.store c.mark_pages.ensures.keeps
    c.in_ok-mark_pages.ensures.settled c.in_ok-mark_pages.ensures.records c.begin_page.new.store c.begin_page.ensures.keeps c.requires.short c.add_row.new.store c.in_ok-begin_page.ensures.ready c.begin_page.ensures.beside.reads
    c.in_ok-begin_page.ensures.longer c.in_ok-begin_page.ensures.slotted c.in_ok-add_row.ensures.longer
    (subst (λ (n : List _). ReadsBeside g.S.Store (λ x. x ≡ n) c.begin_page.new.store c.add_row.new.store) c.as_str.ensures c.add_row.ensures.beside.reads)
    (subst (λ (n : List _). IsTrue g.S.Store.tells → g.S.Store.seen c.add_row.new.store n ≡ Some (bytes_of (g.S.Store.seen c.begin_page.new.store n) ++ c.args.frame.now)) c.as_str.ensures c.in_ok-add_row.ensures.written)
    (subst (λ (n : List _). RowReady g.S.Store n c.args.frame.now c.begin_page.new.store c.add_row.new.store) c.as_str.ensures c.in_ok-add_row.ensures.ready)

pub returns-in_err-mark_pages-clause-beside : goal.returns-in_err-mark_pages-clause-beside
returns-in_err-mark_pages-clause-beside g c = recorded_first g.S.Store g.met.S.Store.images_tell c.args.marks.now c.args.next.now c.args.store.now c.mark_pages.new.store c.mark_pages.ensures.beside

pub returns-in_err-begin_page-clause-beside : goal.returns-in_err-begin_page-clause-beside
returns-in_err-begin_page-clause-beside g c =
    then_begun g.S.Store g.met.S.Store.images_tell c.args.marks.now c.args.next.now c.args.store.now c.mark_pages.new.store c.mark_pages.ensures.beside c.begin_page.new.store c.begin_page.ensures.beside

pub returns-in_err-add_row-clause-beside : goal.returns-in_err-add_row-clause-beside
returns-in_err-add_row-clause-beside g c =
    then_added g.S.Store g.met.S.Store.images_tell c.args.marks.now c.args.next.now c.args.store.now c.mark_pages.new.store c.mark_pages.ensures.beside c.begin_page.new.store c.begin_page.ensures.beside
    c.add_row.new.store c.as_str.result.now c.as_str.ensures c.add_row.ensures.beside

pub returns-clause-beside : goal.returns-clause-beside
returns-clause-beside g c =
    then_added g.S.Store g.met.S.Store.images_tell c.args.marks.now c.args.next.now c.args.store.now c.mark_pages.new.store c.mark_pages.ensures.beside c.begin_page.new.store c.begin_page.ensures.beside
    c.add_row.new.store c.as_str.result.now c.as_str.ensures c.add_row.ensures.beside
