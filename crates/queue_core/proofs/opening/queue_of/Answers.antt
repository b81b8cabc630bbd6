use Rattle.std.proofs.Common.{◌≡◌, ◌++◌, ◌∷◌, [], List, map, sym, ◌∙◌, ap, subst, arith}
use Rattle.std.proofs.Math.Path.{ap₂}
use Rattle.queue_page.specs.Views.{PageView}
use Rattle.queue_files.specs.Folders.{head, page, names_in}
use Rattle.queue_files.specs.declared.sealed_pages.SealedPage.{SealedPage}
use Rattle.queue_core.specs.Calls.{tail_checkpoints}
use Rattle.queue_core.specs.Opening.{tails_opened, unread_in, unread_of}
use Rattle.queue_core.specs.Views.{OpenPageView}
use Rattle.queue_core.proofs.OpenedQueues.{filed, slots_filed, unread_fits}
use Rattle.queue_core.proofs.opening.queue_of.Goals as goal

pub with_pages-requires-clause-files : goal.with_pages-requires-clause-files
with_pages-requires-clause-files c =
    let folder = c.args.folder.now in
    subst (λ (l : List OpenPageView). map (λ (o : OpenPageView). o.file) l ≡ map (λ (o : OpenPageView). names_in folder (page o.number)) l) (sym c.in_ok-tails.ensures)
    (filed folder c.as_slice-below.result.now c.as_slice.result.now)

pub with_pages-requires-clause-marks : goal.with_pages-requires-clause-marks
with_pages-requires-clause-marks c =
    let folder = c.args.folder.now in
    let same = ap (map (λ (t : SealedPage). t.state)) c.as_slice-below.ensures.value ∙ c.requires.states ∙ sym (ap (map (λ (p : PageView). p.state)) c.as_slice.ensures.value) in
    c.in_ok-marks.ensures
    ∙ ap (λ l. l ++ names_in folder head ∷ []) (slots_filed folder c.as_slice-below.result.now c.as_slice.result.now same ∙ ap (tail_checkpoints folder) (sym c.in_ok-tails.ensures))

pub with_pages-requires-clause-few : goal.with_pages-requires-clause-few
with_pages-requires-clause-few c =
    let folder = c.args.folder.now in
    let tails = c.in_ok-tails.ensures ∙ ap₂ (tails_opened folder) c.as_slice-below.ensures.value c.as_slice.ensures.value in
    omega (arith, unread_fits folder c.args.opened.now c.requires, ap unread_in tails, ap unread_of c.in_ok-top.ensures)
