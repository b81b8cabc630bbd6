use Rattle.std.proofs.Common.{◌≡◌, ◌⊎◌, inl, inr, refl}
use Rattle.queue_files.proofs.OtherFiles.{others_stay, then_changed, then_synced}
use Rattle.queue_files.proofs.PurgeRun.{run_removed, run_gone, run_purged, is_purged, ok_then}
use Rattle.queue_files.proofs.purging.remove_page.Goals as goal

pub returns-in_err-remove-clause-keeps : goal.returns-in_err-remove-clause-keeps
returns-in_err-remove-clause-keeps g c names q front behind p apart ready goes =
    run_removed g.S.Store g.met.S.Store.images_tell names apart q front behind p c.args.page.now c.args.checkpoint.now c.args.store.now ready goes
    c.remove.new.self c.remove.ensures.change

pub returns-in_err-sync-clause-keeps : goal.returns-in_err-sync-clause-keeps
returns-in_err-sync-clause-keeps g c names q front behind p apart ready goes =
    run_gone g.S.Store g.met.S.Store.images_tell names apart q front behind p c.args.page.now c.args.checkpoint.now c.args.store.now ready goes
    c.remove.new.self c.remove.ensures.change c.in_ok-remove.ensures.removed c.sync.new.self c.sync.ensures.settled

pub returns-clause-keeps : goal.returns-clause-keeps
returns-clause-keeps g c names q front behind p apart ready goes =
    run_purged g.S.Store g.met.S.Store.images_tell names apart q front behind p c.args.page.now c.args.checkpoint.now c.args.store.now ready goes
    c.remove.new.self c.remove.ensures.change c.in_ok-remove.ensures.removed c.sync.new.self c.sync.ensures.settled c.in_ok-sync.ensures.durable c.remove-2.new.self c.remove-2.ensures.change

pub returns-clause-ready : goal.returns-clause-ready
returns-clause-ready g c =
    ok_then c.remove-2.result (λ names q front behind p apart ready goes.
    is_purged g.S.Store g.met.S.Store.images_tell names apart q front behind p c.args.page.now c.args.checkpoint.now c.args.store.now ready goes
    c.remove.new.self c.remove.ensures.change c.in_ok-remove.ensures.removed c.sync.new.self c.sync.ensures.settled c.in_ok-sync.ensures.durable c.remove-2.new.self c.remove-2.ensures.change)

pub returns-in_err-remove-clause-beside : goal.returns-in_err-remove-clause-beside
returns-in_err-remove-clause-beside g c =
    let page = c.args.page.now in
    let slots = c.args.checkpoint.now in
    then_changed g.S.Store g.met.S.Store.images_tell (others_stay g.S.Store g.met.S.Store.images_tell (λ n. (n ≡ page) ⊎ (n ≡ slots)) c.args.store.now) c.remove.new.self page page _ refl (inl refl) c.remove.ensures.change

pub returns-in_err-sync-clause-beside : goal.returns-in_err-sync-clause-beside
returns-in_err-sync-clause-beside g c =
    let page = c.args.page.now in
    let slots = c.args.checkpoint.now in
    let removed = then_changed g.S.Store g.met.S.Store.images_tell (others_stay g.S.Store g.met.S.Store.images_tell (λ n. (n ≡ page) ⊎ (n ≡ slots)) c.args.store.now) c.remove.new.self page page _ refl (inl refl) c.remove.ensures.change in
    then_synced g.S.Store g.met.S.Store.images_tell removed c.sync.new.self c.sync.ensures.settled

pub returns-clause-beside : goal.returns-clause-beside
returns-clause-beside g c =
    let page = c.args.page.now in
    let slots = c.args.checkpoint.now in
    let removed = then_changed g.S.Store g.met.S.Store.images_tell (others_stay g.S.Store g.met.S.Store.images_tell (λ n. (n ≡ page) ⊎ (n ≡ slots)) c.args.store.now) c.remove.new.self page page _ refl (inl refl) c.remove.ensures.change in
    let gone = then_synced g.S.Store g.met.S.Store.images_tell removed c.sync.new.self c.sync.ensures.settled in
    then_changed g.S.Store g.met.S.Store.images_tell gone c.remove-2.new.self slots slots _ refl (inr refl) c.remove-2.ensures.change
