use Rattle.std.proofs.Common.{◌≡◌, ◌+◌, ◌++◌, ◌∷◌, [], List, None, true, map, sym, subst, ◌∙◌, refl, ap, arith}
use Rattle.io_traits.proofs.Looking.{nothing_yet}
use Rattle.queue_files.specs.Folders.{head, page, Folder, IsOwn, names_in}
use Rattle.queue_files.specs.Found.{head_held, falling}
use Rattle.queue_files.proofs.ApartNames.{names_apart}
use Rattle.queue_page.specs.Pages.{IsGrown}
use Rattle.queue_page.specs.Views.{PageView}
use Rattle.queue_files.specs.Opening.{AllBounded, held_tail}
use Rattle.queue_files.specs.declared.sealed_pages.SealedPage.{SealedPage}
use Rattle.queue_files.specs.declared.opening.OpenedQueue.{OpenedQueue}
use Rattle.queue_files.proofs.Openings.{only_looked, first_made, first_found}
use Rattle.queue_files.proofs.QueueReady.{ready_first}
use Rattle.queue_files.proofs.KnownPages.{opens_first}
use Rattle.queue_files.proofs.OtherFiles.{files_are_own, others_stay}
use Rattle.queue_files.proofs.opening.begin_folder.Goals as goal

pub returns-in_err-page-clause-keeps : goal.returns-in_err-page-clause-keeps
returns-in_err-page-clause-keeps g c begun =
    only_looked g.S.Store g.met.S.Store.images_tell (names_in c.args.folder.now) c.args.store.now c.args.store.now begun.rests (nothing_yet g.S.Store c.args.store.now)

pub returns-in_err-make_first-clause-keeps : goal.returns-in_err-make_first-clause-keeps
returns-in_err-make_first-clause-keeps g c begun =
    first_made g.S.Store g.met.S.Store.images_tell (names_in c.args.folder.now) c.as_str.result.now c.args.checkpoint.now c.args.store.now c.make_first.new.store (names_apart c.args.folder.now)
    (c.as_str.ensures ∙ c.in_ok-page.ensures) c.requires begun c.make_first.ensures.keeps

pub returns-clause-keeps : goal.returns-clause-keeps
returns-clause-keeps g c begun =
    first_made g.S.Store g.met.S.Store.images_tell (names_in c.args.folder.now) c.as_str.result.now c.args.checkpoint.now c.args.store.now c.make_first.new.store (names_apart c.args.folder.now)
    (c.as_str.ensures ∙ c.in_ok-page.ensures) c.requires begun c.make_first.ensures.keeps

pub returns-clause-found : goal.returns-clause-found
returns-clause-found g c begun told =
    first_found g.S.Store g.met.S.Store.images_tell (names_in c.args.folder.now) c.args.store.now _ begun told (ap (λ (p : PageView). p.state.least + p.state.count) c.start-top.ensures)

pub returns-clause-ready : goal.returns-clause-ready
returns-clause-ready g c begun =
    let opened : OpenedQueue =
    record { turn = 0; state = record { page = 0; first_open = 1; least = 1; count = 0; length = 1 }; pages = record { tails = c.new-tails.result; pages = c.new-pages.result; top = c.start-top.result } } in
    ready_first g.S.Store g.met.S.Store.images_tell (names_in c.args.folder.now) c.as_str.result.now c.args.checkpoint.now opened c.args.store.now c.make_first.new.store (names_apart c.args.folder.now)
    (c.as_str.ensures ∙ c.in_ok-page.ensures) c.requires begun c.in_ok-make_first.ensures.ready c.new-tails.ensures.items refl refl c.start-top.ensures

pub returns-clause-opened : goal.returns-clause-opened
returns-clause-opened g c begun =
    let opened : OpenedQueue =
    record { turn = 0; state = record { page = 0; first_open = 1; least = 1; count = 0; length = 1 }; pages = record { tails = c.new-tails.result; pages = c.new-pages.result; top = c.start-top.result } } in
    opens_first g.S.Store g.met.S.Store.images_tell (names_in c.args.folder.now) c.as_str.result.now c.args.checkpoint.now opened c.args.store.now c.make_first.new.store (names_apart c.args.folder.now)
    (c.as_str.ensures ∙ c.in_ok-page.ensures) c.requires begun c.in_ok-make_first.ensures.ready
    (record { turn = refl; state = refl; tails = c.new-tails.ensures.items; pages = c.new-pages.ensures.items; top = c.start-top.ensures })

pub returns-clause-stated : goal.returns-clause-stated
returns-clause-stated g c = record {
  states = ap (map (λ (t : SealedPage). t.state)) c.new-tails.ensures.items ∙ sym (ap (map (λ (p : PageView). p.state)) c.new-pages.ensures.items);
  bounded = subst AllBounded (sym c.new-tails.ensures.items) tt;
  rises = subst (λ (tails : List SealedPage). (folder : Folder) → falling 0 (map (held_tail folder) tails ++ head_held folder (record { page = 0; first_open = 1; least = 1; count = 0; length = 1 }) ∷ []) ≡ None) (sym c.new-tails.ensures.items) (λ folder. refl);
  top = subst (λ (p : PageView). IsGrown true (record { page = 0; first_open = 1; least = 1; count = 0; length = 1 }) p.state) (sym c.start-top.ensures) (record { same = refl; numbers = omega arith; exact = λ is. refl });
}

pub returns-in_err-page-clause-beside : goal.returns-in_err-page-clause-beside
returns-in_err-page-clause-beside g c = others_stay g.S.Store g.met.S.Store.images_tell (IsOwn (names_in c.args.folder.now)) c.args.store.now

pub returns-in_err-make_first-clause-beside : goal.returns-in_err-make_first-clause-beside
returns-in_err-make_first-clause-beside g c =
    files_are_own g.S.Store g.met.S.Store.images_tell c.args.folder.now (page 0) head c.as_str.result.now c.args.checkpoint.now c.args.store.now c.make_first.new.store (c.as_str.ensures ∙ c.in_ok-page.ensures) c.requires
    c.make_first.ensures.beside

pub returns-clause-beside : goal.returns-clause-beside
returns-clause-beside g c =
    files_are_own g.S.Store g.met.S.Store.images_tell c.args.folder.now (page 0) head c.as_str.result.now c.args.checkpoint.now c.args.store.now c.make_first.new.store (c.as_str.ensures ∙ c.in_ok-page.ensures) c.requires
    c.make_first.ensures.beside
