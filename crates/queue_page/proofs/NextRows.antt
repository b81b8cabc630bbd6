-- The element of a row as it is written.
use Rattle.std.proofs.Common.{◌≡◌, ℕ, ◌+◌, ◌<◌, ◌^◌, List, ◌++◌, length, Result, Ok, Err, is_ok, if◌then◌else◌, refl, sym, ◌∙◌, subst}
use Rattle.event_tree.specs.Adds.{Keeps}
use Rattle.event_tree.specs.Events.{Ev}
use Rattle.crc_frame.specs.Frames.{frame_of}
use Rattle.element_code.specs.Adds.{Writes}
use Rattle.element_code.specs.RowBodies.{RowBody, row_spelling}
use Rattle.queue_page.specs.Grammar.{IsElement, IsNext, row_framed}
use Rattle.queue_page.specs.Views.{PageView}
use Rattle.queue_page.specs.declared.row.PageRow.{PageRow}

pub row_is_framed : (number : ℕ) (origin : List ℕ) (event : Ev) (place : ℕ) → number < 2 ^ 64 → RowBody (row_spelling origin event) origin event → length (row_spelling origin event) < 2 ^ 32
    → IsElement 2 place (row_framed number origin event place) (frame_of number (row_spelling origin event))
row_is_framed number origin event place fits body short = record {
  body = row_spelling origin event;
  is_body = (refl, body);
  number_fits = fits;
  body_fits = short;
  framed = refl;
  next = refl;
}

-- the last part, behind those that were written
pub written : {E : Type 0} (r : Result (Unit {0}) E) (old items all new frame : List ℕ) → new ≡ (if is_ok r then all else items) → all ≡ old ++ frame → Keeps old items → Writes r frame old new
written (Ok u) old items all new frame is whole keeps = is ∙ whole
written (Err e) old items all new frame is whole keeps = (keeps.0, is ∙ keeps.1)

-- it comes next in a page of version 2 that has as many rows
pub row_is_next : (page : PageView) (number : ℕ) (origin : List ℕ) (event : Ev) (frame : List ℕ) → ((place : ℕ) → IsElement 2 place (row_framed number origin event place) (frame_of number (row_spelling origin event)))
    → page.version ≡ 2 → number ≡ page.state.least + page.state.count → frame ≡ frame_of number (row_spelling origin event) → (row : PageRow) × IsNext page row frame
row_is_next page number origin event frame element version number_is is =
    let row = row_framed number origin event page.state.length in
    let there = subst (IsElement 2 page.state.length row) (sym is) (element page.state.length) in
    (row, record { number = number_is; element = subst (λ v. IsElement v page.state.length row frame) (sym version) there })
