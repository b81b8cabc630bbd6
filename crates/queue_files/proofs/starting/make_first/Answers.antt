use Rattle.io_traits.proofs.TailRuns.{on_ok_so}
use Rattle.std.proofs.Common.{◌≡◌, ◌⊎◌, inl, inr, refl}
use Rattle.queue_files.proofs.OtherFiles.{others_stay, then_changed, then_synced}
use Rattle.queue_files.proofs.FirstRun.{run_cut, run_begun, run_grown, run_headed, run_made, is_made}
use Rattle.queue_files.proofs.starting.make_first.Goals as goal

pub returns-in_err-cut-clause-keeps : goal.returns-in_err-cut-clause-keeps
returns-in_err-cut-clause-keeps g c names apart new =
    run_cut g.S.Store g.met.S.Store.images_tell names apart c.args.page.now c.args.head.now c.args.store.now new
    c.cut.new.self c.cut.ensures.change

pub returns-in_err-append-clause-keeps : goal.returns-in_err-append-clause-keeps
returns-in_err-append-clause-keeps g c names apart new =
    run_begun g.S.Store g.met.S.Store.images_tell names apart c.args.page.now c.args.head.now c.args.store.now new
    c.cut.new.self c.cut.ensures.change c.append.new.self c.append.ensures.change

pub returns-in_err-sync-clause-keeps : goal.returns-in_err-sync-clause-keeps
returns-in_err-sync-clause-keeps g c names apart new =
    run_grown g.S.Store g.met.S.Store.images_tell names apart c.args.page.now c.args.head.now c.args.store.now new
    c.cut.new.self c.cut.ensures.change c.append.new.self c.append.ensures.change c.sync.new.self c.sync.ensures.settled

pub returns-in_err-write_slot-clause-keeps : goal.returns-in_err-write_slot-clause-keeps
returns-in_err-write_slot-clause-keeps g c names apart new =
    run_headed g.S.Store g.met.S.Store.images_tell names apart c.args.page.now c.args.head.now c.args.store.now new
    c.cut.new.self c.cut.ensures.change c.append.new.self c.append.ensures.change c.sync.new.self c.sync.ensures.settled c.in_ok-cut.ensures.cut c.in_ok-append.ensures.written c.in_ok-sync.ensures.durable c.write_slot.new.store c.write_slot.ensures.change

pub returns-clause-keeps : goal.returns-clause-keeps
returns-clause-keeps g c names apart new =
    run_made g.S.Store g.met.S.Store.images_tell names apart c.args.page.now c.args.head.now c.args.store.now new
    c.cut.new.self c.cut.ensures.change c.append.new.self c.append.ensures.change c.sync.new.self c.sync.ensures.settled c.in_ok-cut.ensures.cut c.in_ok-append.ensures.written c.in_ok-sync.ensures.durable c.write_slot.new.store c.write_slot.ensures.change c.in_ok-write_slot.ensures.written c.sync-2.new.self c.sync-2.ensures.settled

pub returns-clause-ready : goal.returns-clause-ready
returns-clause-ready g c =
    on_ok_so c.sync-2.result c.sync-2.ensures.durable (λ durable names apart new.
    is_made g.S.Store g.met.S.Store.images_tell names apart c.args.page.now c.args.head.now c.args.store.now new
    c.cut.new.self c.cut.ensures.change c.append.new.self c.append.ensures.change c.sync.new.self c.sync.ensures.settled c.in_ok-cut.ensures.cut c.in_ok-append.ensures.written c.in_ok-sync.ensures.durable c.write_slot.new.store c.write_slot.ensures.change c.in_ok-write_slot.ensures.written c.sync-2.new.self c.sync-2.ensures.settled durable)

pub returns-in_err-cut-clause-beside : goal.returns-in_err-cut-clause-beside
returns-in_err-cut-clause-beside g c =
    let page = c.args.page.now in
    let head = c.args.head.now in
    then_changed g.S.Store g.met.S.Store.images_tell (others_stay g.S.Store g.met.S.Store.images_tell (λ n. (n ≡ page) ⊎ (n ≡ head)) c.args.store.now) c.cut.new.self page page _ refl (inl refl) c.cut.ensures.change

pub returns-in_err-append-clause-beside : goal.returns-in_err-append-clause-beside
returns-in_err-append-clause-beside g c =
    let page = c.args.page.now in
    let head = c.args.head.now in
    let emptied = then_changed g.S.Store g.met.S.Store.images_tell (others_stay g.S.Store g.met.S.Store.images_tell (λ n. (n ≡ page) ⊎ (n ≡ head)) c.args.store.now) c.cut.new.self page page _ refl (inl refl) c.cut.ensures.change in
    then_changed g.S.Store g.met.S.Store.images_tell emptied c.append.new.self page page _ refl (inl refl) c.append.ensures.change

pub returns-in_err-sync-clause-beside : goal.returns-in_err-sync-clause-beside
returns-in_err-sync-clause-beside g c =
    let page = c.args.page.now in
    let head = c.args.head.now in
    let emptied = then_changed g.S.Store g.met.S.Store.images_tell (others_stay g.S.Store g.met.S.Store.images_tell (λ n. (n ≡ page) ⊎ (n ≡ head)) c.args.store.now) c.cut.new.self page page _ refl (inl refl) c.cut.ensures.change in
    let begun = then_changed g.S.Store g.met.S.Store.images_tell emptied c.append.new.self page page _ refl (inl refl) c.append.ensures.change in
    then_synced g.S.Store g.met.S.Store.images_tell begun c.sync.new.self c.sync.ensures.settled

pub returns-in_err-write_slot-clause-beside : goal.returns-in_err-write_slot-clause-beside
returns-in_err-write_slot-clause-beside g c =
    let page = c.args.page.now in
    let head = c.args.head.now in
    let emptied = then_changed g.S.Store g.met.S.Store.images_tell (others_stay g.S.Store g.met.S.Store.images_tell (λ n. (n ≡ page) ⊎ (n ≡ head)) c.args.store.now) c.cut.new.self page page _ refl (inl refl) c.cut.ensures.change in
    let begun = then_changed g.S.Store g.met.S.Store.images_tell emptied c.append.new.self page page _ refl (inl refl) c.append.ensures.change in
    let settled = then_synced g.S.Store g.met.S.Store.images_tell begun c.sync.new.self c.sync.ensures.settled in
    then_changed g.S.Store g.met.S.Store.images_tell settled c.write_slot.new.store head head _ refl (inr refl) c.write_slot.ensures.change

pub returns-clause-beside : goal.returns-clause-beside
returns-clause-beside g c =
    let page = c.args.page.now in
    let head = c.args.head.now in
    let emptied = then_changed g.S.Store g.met.S.Store.images_tell (others_stay g.S.Store g.met.S.Store.images_tell (λ n. (n ≡ page) ⊎ (n ≡ head)) c.args.store.now) c.cut.new.self page page _ refl (inl refl) c.cut.ensures.change in
    let begun = then_changed g.S.Store g.met.S.Store.images_tell emptied c.append.new.self page page _ refl (inl refl) c.append.ensures.change in
    let settled = then_synced g.S.Store g.met.S.Store.images_tell begun c.sync.new.self c.sync.ensures.settled in
    let headed = then_changed g.S.Store g.met.S.Store.images_tell settled c.write_slot.new.store head head _ refl (inr refl) c.write_slot.ensures.change in
    then_synced g.S.Store g.met.S.Store.images_tell headed c.sync-2.new.self c.sync-2.ensures.settled
