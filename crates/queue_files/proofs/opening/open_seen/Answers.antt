use Rattle.std.proofs.Common.{sym, subst}
use Rattle.io_traits.proofs.Looking.{nothing_yet}
use Rattle.io_traits.specs.declared.queue_faults.QueueFault.{QueueFault}
use Rattle.queue_files.specs.Folders.{IsOwn, names_in}
use Rattle.queue_files.specs.Found.{found}
use Rattle.queue_files.specs.Collected.{IsLost}
use Rattle.queue_files.specs.Marks.{read_in}
use Rattle.queue_files.proofs.Openings.{only_looked, sees_new, sees_pages, sees_damage}
use Rattle.queue_files.proofs.QueueReady.{if_ok_so, newest_of}
use Rattle.queue_files.proofs.OtherFiles.{others_stay}
use Rattle.queue_files.proofs.opening.open_seen.Goals as goal

pub returns-then-is_new-clause-found : goal.returns-then-is_new-clause-found
returns-then-is_new-clause-found g c seen told =
    c.begin_folder.ensures.found (sees_new g.S.Store g.met.S.Store.images_tell (names_in c.args.folder.now) c.args.look c.args.store.now seen c.is_new.result c.is_new.ensures c.if-is_new.true) told

pub returns-then-is_new-clause-keeps : goal.returns-then-is_new-clause-keeps
returns-then-is_new-clause-keeps g c seen =
    c.begin_folder.ensures.keeps (sees_new g.S.Store g.met.S.Store.images_tell (names_in c.args.folder.now) c.args.look c.args.store.now seen c.is_new.result c.is_new.ensures c.if-is_new.true)

pub returns-in-Ok-clause-found : goal.returns-in-Ok-clause-found
returns-in-Ok-clause-found g c seen told =
    c.open_pages.ensures.found (sees_pages g.S.Store g.met.S.Store.images_tell (names_in c.args.folder.now) c.args.look c.args.store.now _ _ c.told.result seen c.told.ensures.told c.in-Ok.is) told

pub returns-in-Ok-clause-keeps : goal.returns-in-Ok-clause-keeps
returns-in-Ok-clause-keeps g c seen =
    c.open_pages.ensures.keeps (sees_pages g.S.Store g.met.S.Store.images_tell (names_in c.args.folder.now) c.args.look c.args.store.now _ _ c.told.result seen c.told.ensures.told c.in-Ok.is)

pub returns-in-Err-clause-found : goal.returns-in-Err-clause-found
returns-in-Err-clause-found g c seen told =
    let names = names_in c.args.folder.now in
    subst (λ (fault : QueueFault). IsLost names fault (found (read_in names (g.S.Store.seen c.args.store.now)))) (sym c.damaged.ensures)
    (sees_damage g.S.Store g.met.S.Store.images_tell names c.args.look c.args.store.now c.told.result c.in-Err.differing c.is_new.result c.args.look.head seen told c.told.ensures.told c.in-Err.is c.is_new.ensures c.if-is_new.false c.requires)

pub returns-in-Err-clause-keeps : goal.returns-in-Err-clause-keeps
returns-in-Err-clause-keeps g c seen =
    only_looked g.S.Store g.met.S.Store.images_tell (names_in c.args.folder.now) c.args.store.now c.args.store.now seen.rests (nothing_yet g.S.Store c.args.store.now)

pub returns-then-is_new-clause-ready : goal.returns-then-is_new-clause-ready
returns-then-is_new-clause-ready g c =
    if_ok_so _ _ c.begin_folder.result c.begin_folder.ensures.ready
    (λ o ready seen. ready (sees_new g.S.Store g.met.S.Store.images_tell (names_in c.args.folder.now) c.args.look c.args.store.now seen c.is_new.result c.is_new.ensures c.if-is_new.true))

pub returns-in-Ok-clause-ready : goal.returns-in-Ok-clause-ready
returns-in-Ok-clause-ready g c =
    if_ok_so _ _ c.open_pages.result c.open_pages.ensures.ready
    (λ o ready seen. ready (sees_pages g.S.Store g.met.S.Store.images_tell (names_in c.args.folder.now) c.args.look c.args.store.now _ _ c.told.result seen c.told.ensures.told c.in-Ok.is)
    (λ told. newest_of _ c.args.look.slots _ _ (seen.looked told).slots_are c.in-Ok.ensures.newest c.in-Ok.ensures.fits))

pub returns-then-is_new-clause-opened : goal.returns-then-is_new-clause-opened
returns-then-is_new-clause-opened g c =
    if_ok_so _ _ c.begin_folder.result c.begin_folder.ensures.opened
    (λ o opened seen. opened (sees_new g.S.Store g.met.S.Store.images_tell (names_in c.args.folder.now) c.args.look c.args.store.now seen c.is_new.result c.is_new.ensures c.if-is_new.true))

pub returns-in-Ok-clause-opened : goal.returns-in-Ok-clause-opened
returns-in-Ok-clause-opened g c =
    if_ok_so _ _ c.open_pages.result c.open_pages.ensures.opened
    (λ o opened seen. opened (sees_pages g.S.Store g.met.S.Store.images_tell (names_in c.args.folder.now) c.args.look c.args.store.now _ _ c.told.result seen c.told.ensures.told c.in-Ok.is)
    (λ told. newest_of _ c.args.look.slots _ _ (seen.looked told).slots_are c.in-Ok.ensures.newest c.in-Ok.ensures.fits))

pub returns-then-is_new-clause-beside : goal.returns-then-is_new-clause-beside
returns-then-is_new-clause-beside g c = c.begin_folder.ensures.beside

pub returns-in-Ok-clause-beside : goal.returns-in-Ok-clause-beside
returns-in-Ok-clause-beside g c = c.open_pages.ensures.beside

pub returns-in-Err-clause-beside : goal.returns-in-Err-clause-beside
returns-in-Err-clause-beside g c = others_stay g.S.Store g.met.S.Store.images_tell (IsOwn (names_in c.args.folder.now)) c.args.store.now
