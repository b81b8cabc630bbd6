use Rattle.std.proofs.Common.{◌≡◌, ◌+◌, List, ℕ, ◌++◌, sym, ap, ◌∙◌, arith}
use Rattle.crc_frame.specs.Frames.{frame_of}
use Rattle.element_code.specs.RowBodies.{row_spelling}
use Rattle.io_traits.specs.declared.pages.PageState.{PageState}
use Rattle.queue_page.proofs.NextRows.{row_is_next}
use Rattle.queue_tests.proofs.pages.append.Goals as goal

pub append_row-requires-clause-element : goal.append_row-requires-clause-element
append_row-requires-clause-element c =
    let page = c.args.page.now in
    let frame = frame_of c.in-Some.number (row_spelling c.args.origin.now c.new.result) in
    let state = c.state-state.ensures in
    let number : c.in-Some.number ≡ page.state.least + page.state.count = omega (arith, c.in-Some.ensures, c.from.ensures, ap (λ (s : PageState). s.least) state, ap (λ (s : PageState). s.count) state) in
    row_is_next page c.in-Some.number c.args.origin.now c.new.result c.deref.result.now c.in_ok-frame_row.ensures.element (sym c.version.ensures ∙ c.if-version-ne-LAST_VERSION.false) number
    (c.deref.ensures.value ∙ c.in_ok-frame_row.ensures.ok ∙ ap (λ (xs : List ℕ). xs ++ frame) c.new-frame.ensures.items)
