use Rattle.std.proofs.Common.{inl, inr, sym, subst, ap, ◌∙◌}
use Rattle.io_traits.specs.declared.queue_faults.QueueFault.{QueueFault}
use Rattle.queue_files.specs.Folders.{head, names_in}
use Rattle.queue_files.specs.Found.{found}
use Rattle.queue_files.specs.Collected.{IsLost}
use Rattle.queue_files.specs.Marks.{read_in}
use Rattle.queue_files.specs.Telling.{as_told, misfit_of}
use Rattle.queue_files.proofs.Openings.{head_damaged, told_as}
use Rattle.queue_files.proofs.QueueReady.{if_ok_so, newest_of}
use Rattle.queue_files.proofs.Seeings.{first_seen}
use Rattle.queue_files.proofs.inspection.read_seen.Goals as goal

pub returns-then-is_new-clause-found : goal.returns-then-is_new-clause-found
returns-then-is_new-clause-found g c told looked =
    let f = read_in (names_in c.args.folder.now) (g.S.Store.seen c.args.store.now) in
    first_seen f c.first_opened.result c.first_opened.ensures.first (sym (c.is_new.ensures f looked.slots_are looked.listed) ∙ c.if-is_new.true)

pub returns-then-is_new-clause-reads : goal.returns-then-is_new-clause-reads
returns-then-is_new-clause-reads g c told looked =
    let f = read_in (names_in c.args.folder.now) (g.S.Store.seen c.args.store.now) in
    inl (sym (c.is_new.ensures f looked.slots_are looked.listed) ∙ c.if-is_new.true, c.first_opened.ensures.first)

pub returns-in-Ok-clause-found : goal.returns-in-Ok-clause-found
returns-in-Ok-clause-found g c told looked =
    c.read_listed.ensures.found told looked.listed (told_as (g.S.Store.seen c.args.store.now (names_in c.args.folder.now head)) c.args.look.slots c.told.result looked.slots_are c.told.ensures.told ∙ ap as_told c.in-Ok.is)

pub returns-in-Ok-clause-reads : goal.returns-in-Ok-clause-reads
returns-in-Ok-clause-reads g c =
    if_ok_so _ _ c.read_listed.result c.read_listed.ensures.reads
    (λ o reads told looked. inr (reads told looked.listed
    (told_as (g.S.Store.seen c.args.store.now (names_in c.args.folder.now head)) c.args.look.slots c.told.result looked.slots_are c.told.ensures.told ∙ ap as_told c.in-Ok.is)
    (newest_of _ c.args.look.slots _ _ looked.slots_are c.in-Ok.ensures.newest c.in-Ok.ensures.fits)))

pub returns-in-Err-clause-found : goal.returns-in-Err-clause-found
returns-in-Err-clause-found g c told looked =
    let names = names_in c.args.folder.now in
    let f = read_in names (g.S.Store.seen c.args.store.now) in
    subst (λ (fault : QueueFault). IsLost names fault (found f)) (sym c.damaged.ensures) (
      head,
      c.requires,
      head_damaged f (misfit_of c.in-Err.differing) (sym (c.is_new.ensures f looked.slots_are looked.listed) ∙ c.if-is_new.false)
          (told_as (f head) c.args.look.slots c.told.result looked.slots_are c.told.ensures.told ∙ ap as_told c.in-Err.is),
    )
