use Rattle.std.proofs.Common.{◌∙◌}
use Rattle.queue_files.specs.Folders.{IsOwn, names_in}
use Rattle.queue_files.specs.Found.{found}
use Rattle.queue_files.specs.Marks.{read_in}
use Rattle.queue_files.proofs.Openings.{hands_on, no_damage, synced, then_looked, is_seen, then_opened, finds, opening_keeps}
use Rattle.queue_files.proofs.QueueReady.{if_ok_so, ready_from}
use Rattle.queue_files.proofs.KnownPages.{opened_from}
use Rattle.queue_files.proofs.OtherFiles.{others_synced, then_only_looked, then_others}
use Rattle.queue_files.proofs.opening.open_folder.Goals as goal

pub returns-in_err-sync-clause-any_moment : goal.returns-in_err-sync-clause-any_moment
returns-in_err-sync-clause-any_moment g c =
    synced g.S.Store g.met.S.Store.images_tell (names_in c.args.folder.now) c.args.store.now c.sync.new.self c.sync.ensures.settled

pub returns-in_err-sync-clause-keeps : goal.returns-in_err-sync-clause-keeps
returns-in_err-sync-clause-keeps g c =
    opening_keeps g.S.Store g.met.S.Store.images_tell (names_in c.args.folder.now) c.args.store.now c.sync.new.self
    (synced g.S.Store g.met.S.Store.images_tell (names_in c.args.folder.now) c.args.store.now c.sync.new.self c.sync.ensures.settled)

pub returns-in_err-look-clause-any_moment : goal.returns-in_err-look-clause-any_moment
returns-in_err-look-clause-any_moment g c =
    then_looked g.S.Store g.met.S.Store.images_tell (names_in c.args.folder.now) c.args.store.now c.sync.new.self c.sync.ensures.settled c.in_ok-sync.ensures.durable c.look_at.new.store c.look_at.ensures.same

pub returns-in_err-look-clause-keeps : goal.returns-in_err-look-clause-keeps
returns-in_err-look-clause-keeps g c =
    opening_keeps g.S.Store g.met.S.Store.images_tell (names_in c.args.folder.now) c.args.store.now c.look_at.new.store
    (then_looked g.S.Store g.met.S.Store.images_tell (names_in c.args.folder.now) c.args.store.now c.sync.new.self c.sync.ensures.settled c.in_ok-sync.ensures.durable c.look_at.new.store c.look_at.ensures.same)

pub returns-in_err-look-clause-found : goal.returns-in_err-look-clause-found
returns-in_err-look-clause-found g c told =
    let names = names_in c.args.folder.now in
    let folder = read_in names (g.S.Store.seen c.args.store.now) in
    let lost = c.in_err-look.field-0.0 in
    hands_on names folder c.from_residual-in_err-look.result lost c.from_residual-in_err-look.ensures.1 (no_damage names lost (found folder) c.in_err-look.ensures.whole)

pub returns-clause-any_moment : goal.returns-clause-any_moment
returns-clause-any_moment g c =
    let seen = is_seen g.S.Store g.met.S.Store.images_tell (names_in c.args.folder.now) c.args.store.now c.sync.new.self c.sync.ensures.settled c.in_ok-sync.ensures.durable c.look_at.new.store c.look_at.ensures.same
    c.in_ok-look.look c.in_ok-look.ensures.looked in
    then_opened g.S.Store g.met.S.Store.images_tell (names_in c.args.folder.now) c.args.store.now c.sync.new.self c.sync.ensures.settled c.in_ok-sync.ensures.durable c.look_at.new.store c.look_at.ensures.same
    c.open_seen.new.store (c.open_seen.ensures.keeps seen)

pub returns-clause-keeps : goal.returns-clause-keeps
returns-clause-keeps g c = opening_keeps g.S.Store g.met.S.Store.images_tell (names_in c.args.folder.now) c.args.store.now c.open_seen.new.store (returns-clause-any_moment g c)

pub returns-clause-found : goal.returns-clause-found
returns-clause-found g c told =
    let seen = is_seen g.S.Store g.met.S.Store.images_tell (names_in c.args.folder.now) c.args.store.now c.sync.new.self c.sync.ensures.settled c.in_ok-sync.ensures.durable c.look_at.new.store c.look_at.ensures.same
    c.in_ok-look.look c.in_ok-look.ensures.looked in
    finds g.S.Store g.met.S.Store.images_tell (names_in c.args.folder.now) c.args.store.now c.sync.new.self c.sync.ensures.settled c.in_ok-sync.ensures.durable c.look_at.new.store c.look_at.ensures.same
    c.open_seen.result told (c.open_seen.ensures.found seen told)

pub returns-clause-ready : goal.returns-clause-ready
returns-clause-ready g c =
    let seen = is_seen g.S.Store g.met.S.Store.images_tell (names_in c.args.folder.now) c.args.store.now c.sync.new.self c.sync.ensures.settled c.in_ok-sync.ensures.durable c.look_at.new.store c.look_at.ensures.same
    c.in_ok-look.look c.in_ok-look.ensures.looked in
    if_ok_so _ _ c.open_seen.result c.open_seen.ensures.ready
    (λ o ready. ready_from g.S.Store g.met.S.Store.images_tell (names_in c.args.folder.now) o c.args.store.now c.look_at.new.store c.open_seen.new.store
    (λ told. c.look_at.ensures.same.reads told ∙ c.sync.ensures.settled.reads told) (ready seen))

pub returns-clause-opened : goal.returns-clause-opened
returns-clause-opened g c =
    let seen = is_seen g.S.Store g.met.S.Store.images_tell (names_in c.args.folder.now) c.args.store.now c.sync.new.self c.sync.ensures.settled c.in_ok-sync.ensures.durable c.look_at.new.store c.look_at.ensures.same
    c.in_ok-look.look c.in_ok-look.ensures.looked in
    if_ok_so _ _ c.open_seen.result c.open_seen.ensures.opened
    (λ o opened. opened_from g.S.Store g.met.S.Store.images_tell (names_in c.args.folder.now) o c.args.store.now c.look_at.new.store c.open_seen.new.store
    (λ told. c.look_at.ensures.same.reads told ∙ c.sync.ensures.settled.reads told) (opened seen))

pub returns-in_err-sync-clause-beside : goal.returns-in_err-sync-clause-beside
returns-in_err-sync-clause-beside g c = others_synced g.S.Store g.met.S.Store.images_tell (IsOwn (names_in c.args.folder.now)) c.args.store.now c.sync.new.self c.sync.ensures.settled

pub returns-in_err-look-clause-beside : goal.returns-in_err-look-clause-beside
returns-in_err-look-clause-beside g c =
    then_only_looked g.S.Store g.met.S.Store.images_tell (others_synced g.S.Store g.met.S.Store.images_tell (IsOwn (names_in c.args.folder.now)) c.args.store.now c.sync.new.self c.sync.ensures.settled)
    c.look_at.new.store c.look_at.ensures.same

pub returns-clause-beside : goal.returns-clause-beside
returns-clause-beside g c =
    let looked = then_only_looked g.S.Store g.met.S.Store.images_tell (others_synced g.S.Store g.met.S.Store.images_tell (IsOwn (names_in c.args.folder.now)) c.args.store.now c.sync.new.self c.sync.ensures.settled)
    c.look_at.new.store c.look_at.ensures.same in
    then_others g.S.Store g.met.S.Store.images_tell looked c.open_seen.ensures.beside
