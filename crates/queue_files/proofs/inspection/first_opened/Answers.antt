use Rattle.std.proofs.Common.{◌≡◌, ◌++◌, ◌∷◌, [], List, None, true, map, sym, subst, refl, ap, ◌∙◌, arith}
use Rattle.queue_files.specs.Folders.{Folder}
use Rattle.queue_files.specs.Found.{head_held, falling}
use Rattle.queue_page.specs.Pages.{IsGrown}
use Rattle.queue_page.specs.Views.{PageView}
use Rattle.queue_files.specs.Opening.{AllBounded, held_tail}
use Rattle.queue_files.specs.declared.sealed_pages.SealedPage.{SealedPage}
use Rattle.queue_files.proofs.inspection.first_opened.Goals as goal

pub returns-clause-first : goal.returns-clause-first
returns-clause-first c = record { turn = refl; state = refl; tails = c.new-tails.ensures.items; pages = c.new-pages.ensures.items; top = c.start-top.ensures }

pub returns-clause-stated : goal.returns-clause-stated
returns-clause-stated c = record {
  states = ap (map (λ (t : SealedPage). t.state)) c.new-tails.ensures.items ∙ sym (ap (map (λ (p : PageView). p.state)) c.new-pages.ensures.items);
  bounded = subst AllBounded (sym c.new-tails.ensures.items) tt;
  rises = subst (λ (tails : List SealedPage). (folder : Folder) → falling 0 (map (held_tail folder) tails ++ head_held folder (record { page = 0; first_open = 1; least = 1; count = 0; length = 1 }) ∷ []) ≡ None) (sym c.new-tails.ensures.items) (λ folder. refl);
  top = subst (λ (p : PageView). IsGrown true (record { page = 0; first_open = 1; least = 1; count = 0; length = 1 }) p.state) (sym c.start-top.ensures) (record { same = refl; numbers = omega arith; exact = λ is. refl });
}
