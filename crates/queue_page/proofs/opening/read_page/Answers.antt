use Rattle.std.proofs.Common.{◌≡◌, length, Ok, Bool, sym, ap, ◌∙◌, subst}
use Rattle.std.proofs.lemmas.Result.{IfOk-weaker}
use Rattle.io_traits.specs.Reads.{bytes_of}
use Rattle.io_traits.specs.declared.pages.PageState.{PageState}
use Rattle.queue_page.specs.Blocks.{AreBytesIn}
use Rattle.queue_page.specs.Answers.{Tells}
use Rattle.queue_page.specs.Views.{PageView}
use Rattle.queue_page.specs.Pages.{behind_view, opened_view}
use Rattle.queue_page.proofs.Told.{over}
use Rattle.queue_page.proofs.FileBytes.{and_behind}
use Rattle.queue_page.proofs.PageReads.{opened_head}
use Rattle.queue_page.proofs.opening.read_page.Goals as goal

pub returns-clause-page : goal.returns-clause-page
returns-clause-page g c = λ told part is.
    let s = c.args.state.now in
    let name = c.args.name.now in
    let file = bytes_of (g.S.Store.seen c.args.store.now name) in
    let page = c.in_ok-page.page in
    let result = c.read_behind.result in
    let read = over (g.S.Store.seen c.read_recorded.new.store) (g.S.Store.seen c.args.store.now) name c.read_recorded.new.block
    (λ f. c.args.len ≡ length f → Tells (λ (p : PageView). p) result (Ok (behind_view page f)))
    (c.read_recorded.ensures.same.reads told) (c.read_behind.ensures.page told) (c.in_ok-page.ensures.part told part) is in
    subst (λ r. Tells (λ (p : PageView). p) result r) (sym (ap (λ (h : Bool). opened_view h s file) c.if-not-head.false ∙ opened_head s page file (c.in_ok-page.ensures.page told part is) c.in_ok-page.ensures.state.0)) read

pub returns-clause-bytes : goal.returns-clause-bytes
returns-clause-bytes g c =
    IfOk-weaker c.read_behind.result _ _
    (λ page more told part is.
    let file = bytes_of (g.S.Store.seen c.args.store.now c.args.name.now) in
    let first = subst (λ (s : PageState). AreBytesIn 0 s.length file) (sym c.in_ok-page.ensures.state.0) (c.in_ok-page.ensures.bytes told part is) in
    and_behind file 0 c.in_ok-page.page.state.length page.state.length first
    (over (g.S.Store.seen c.read_recorded.new.store) (g.S.Store.seen c.args.store.now) c.args.name.now c.read_recorded.new.block (λ f. c.args.len ≡ length f → AreBytesIn c.in_ok-page.page.state.length page.state.length f)
    (c.read_recorded.ensures.same.reads told) (more told) (c.in_ok-page.ensures.part told part) is))
    c.read_behind.ensures.bytes
