use Rattle.std.proofs.Common.{refl, subst, ◌∙◌, List, ℕ}
use Rattle.io_traits.specs.Reads.{bytes_of}
use Rattle.queue_page.specs.Blocks.{AreBytesIn}
use Rattle.io_traits.specs.declared.pages.PageState.{PageState}
use Rattle.queue_files.proofs.QueueReady.{if_ok_so, if_ok_both}
use Rattle.queue_files.proofs.page_scan.scan_tail.Goals as goal

pub returns-clause-state : goal.returns-clause-state
returns-clause-state g c = if_ok_so _ _ c.scan.result c.scan.ensures.grown (λ page grown. grown.exact refl)

pub returns-clause-bytes : goal.returns-clause-bytes
returns-clause-bytes g c =
    if_ok_both _ _ _ c.scan.result c.scan.ensures.grown c.scan.ensures.bytes
    (λ page grown bytes told.
    subst (λ (name : List ℕ). AreBytesIn 0 c.args.tail.now.state.length (bytes_of (g.S.Store.seen c.args.store.now name))) (c.as_str.ensures ∙ c.in_ok-name.ensures)
    (subst (λ (s : PageState). AreBytesIn 0 s.length (bytes_of (g.S.Store.seen c.args.store.now c.as_str.result.now))) (grown.exact refl) (bytes told)))
