use Rattle.std.proofs.Common.{inl, inr, [], ◌∷◌, refl}
use Rattle.io_traits.specs.Reads.{bytes_of}
use Rattle.crc_frame.specs.Slots.{place_of}
use Rattle.slot_files.specs.Checkpoints.{slot_spelling}
use Rattle.slot_files.proofs.CheckpointBytes.{length-spelling}
use Rattle.io_traits.proofs.TailRuns.{on_ok_so}
use Rattle.queue_files.specs.Ready.{IsOfNext}
use Rattle.queue_files.proofs.OtherFiles.{others_stay, then_changed, then_synced}
use Rattle.queue_files.proofs.RollRun.{run_sealed, run_begun, run_grown, run_headed, run_rolled, is_rolled}
use Rattle.queue_files.proofs.Lengths.{behind, longer_slot, longer_then, on_ok, slotted_there}
use Rattle.queue_files.proofs.rolling.begin_page.Goals as goal

pub returns-in_err-write_slot-clause-keeps : goal.returns-in_err-write_slot-clause-keeps
returns-in_err-write_slot-clause-keeps g c names q apart ready can are =
    run_sealed g.S.Store g.met.S.Store.images_tell names apart q can c.args.next.now c.args.store.now ready are c.as_str.result.now c.args.next.now.file c.args.next.now.head c.as_str.ensures refl refl
    c.write_slot.new.store c.write_slot.ensures.change

pub returns-in_err-append-clause-keeps : goal.returns-in_err-append-clause-keeps
returns-in_err-append-clause-keeps g c names q apart ready can are =
    run_begun g.S.Store g.met.S.Store.images_tell names apart q can c.args.next.now c.args.store.now ready are c.as_str.result.now c.as_str-2.result.now c.args.next.now.head c.as_str.ensures c.as_str-2.ensures refl
    c.write_slot.new.store c.write_slot.ensures.change c.append.new.self c.append.ensures.change

pub returns-in_err-sync-clause-keeps : goal.returns-in_err-sync-clause-keeps
returns-in_err-sync-clause-keeps g c names q apart ready can are =
    run_grown g.S.Store g.met.S.Store.images_tell names apart q can c.args.next.now c.args.store.now ready are c.as_str.result.now c.as_str-2.result.now c.args.next.now.head c.as_str.ensures c.as_str-2.ensures refl
    c.write_slot.new.store c.write_slot.ensures.change c.append.new.self c.append.ensures.change c.sync.new.self c.sync.ensures.settled

pub returns-in_err-write_slot-2-clause-keeps : goal.returns-in_err-write_slot-2-clause-keeps
returns-in_err-write_slot-2-clause-keeps g c names q apart ready can are =
    run_headed g.S.Store g.met.S.Store.images_tell names apart q can c.args.next.now c.args.store.now ready are c.as_str.result.now c.as_str-2.result.now c.as_str-3.result.now c.as_str.ensures c.as_str-2.ensures c.as_str-3.ensures
    c.write_slot.new.store c.write_slot.ensures.change c.append.new.self c.append.ensures.change c.sync.new.self c.sync.ensures.settled c.in_ok-write_slot.ensures.written c.in_ok-append.ensures.written c.in_ok-sync.ensures.durable c.write_slot-2.new.store c.write_slot-2.ensures.change

pub returns-clause-keeps : goal.returns-clause-keeps
returns-clause-keeps g c names q apart ready can are =
    run_rolled g.S.Store g.met.S.Store.images_tell names apart q can c.args.next.now c.args.store.now ready are c.as_str.result.now c.as_str-2.result.now c.as_str-3.result.now c.as_str.ensures c.as_str-2.ensures c.as_str-3.ensures
    c.write_slot.new.store c.write_slot.ensures.change c.append.new.self c.append.ensures.change c.sync.new.self c.sync.ensures.settled c.in_ok-write_slot.ensures.written c.in_ok-append.ensures.written c.in_ok-sync.ensures.durable c.write_slot-2.new.store c.write_slot-2.ensures.change c.in_ok-write_slot-2.ensures.written c.sync-2.new.self c.sync-2.ensures.settled

pub returns-clause-ready : goal.returns-clause-ready
returns-clause-ready g c =
    on_ok_so c.sync-2.result c.sync-2.ensures.durable (λ durable names q apart ready can are.
    is_rolled g.S.Store g.met.S.Store.images_tell names apart q can c.args.next.now c.args.store.now ready are c.as_str.result.now c.as_str-2.result.now c.as_str-3.result.now c.as_str.ensures c.as_str-2.ensures c.as_str-3.ensures
    c.write_slot.new.store c.write_slot.ensures.change c.append.new.self c.append.ensures.change c.sync.new.self c.sync.ensures.settled c.in_ok-write_slot.ensures.written c.in_ok-append.ensures.written c.in_ok-sync.ensures.durable c.write_slot-2.new.store c.write_slot-2.ensures.change c.in_ok-write_slot-2.ensures.written c.sync-2.new.self c.sync-2.ensures.settled durable)

pub returns-clause-longer : goal.returns-clause-longer
returns-clause-longer g c = on_ok c.sync-2.result (λ told.
    let seen = g.S.Store.seen in
    let next = c.args.next.now in
    let s0 = seen c.args.store.now in
    let s1 = seen c.write_slot.new.store in
    let s2 = seen c.append.new.self in
    let s3 = seen c.sync.new.self in
    let s4 = seen c.write_slot-2.new.store in
    let s5 = seen c.sync-2.new.self in
    longer_then s0 s1 s5 (longer_slot c.as_str.result.now (place_of 48 0) (slot_spelling 0 next.sealed) s0 s1 (c.in_ok-write_slot.ensures.written told) (c.write_slot.ensures.change.beside told))
    (behind s1 s2 s3 s4 s5 c.as_str-2.result.now c.as_str-3.result.now (2 ∷ []) (place_of 48 next.turn) (slot_spelling next.turn next.state) (c.in_ok-append.ensures.written told) (c.append.ensures.change.beside told)
    (c.sync.ensures.settled.reads told) (c.in_ok-write_slot-2.ensures.written told) (c.write_slot-2.ensures.change.beside told) (c.sync-2.ensures.settled.reads told)))

pub returns-clause-slotted : goal.returns-clause-slotted
returns-clause-slotted g c = on_ok c.sync-2.result (λ told.
    let seen = g.S.Store.seen in
    let next = c.args.next.now in
    let s0 = seen c.args.store.now in
    let s1 = seen c.write_slot.new.store in
    let s2 = seen c.append.new.self in
    let s3 = seen c.sync.new.self in
    let s4 = seen c.write_slot-2.new.store in
    let s5 = seen c.sync-2.new.self in
    let name = c.as_str.result.now in
    let more = behind s1 s2 s3 s4 s5 c.as_str-2.result.now c.as_str-3.result.now (2 ∷ []) (place_of 48 next.turn) (slot_spelling next.turn next.state) (c.in_ok-append.ensures.written told) (c.append.ensures.change.beside told)
    (c.sync.ensures.settled.reads told) (c.in_ok-write_slot-2.ensures.written told) (c.write_slot-2.ensures.change.beside told) (c.sync-2.ensures.settled.reads told) in
    slotted_there name next.checkpoint (slot_spelling 0 next.sealed) (bytes_of (s0 name)) s1 s5 (place_of 48 0) (length-spelling 0 next.sealed) (c.in_ok-write_slot.ensures.written told) more c.as_str.ensures)

pub returns-in_err-write_slot-clause-beside : goal.returns-in_err-write_slot-clause-beside
returns-in_err-write_slot-clause-beside g c =
    let next = c.args.next.now in
    then_changed g.S.Store g.met.S.Store.images_tell (others_stay g.S.Store g.met.S.Store.images_tell (IsOfNext next) c.args.store.now) c.write_slot.new.store next.checkpoint c.as_str.result.now _ c.as_str.ensures (inl refl) c.write_slot.ensures.change

pub returns-in_err-append-clause-beside : goal.returns-in_err-append-clause-beside
returns-in_err-append-clause-beside g c =
    let next = c.args.next.now in
    let sealed = then_changed g.S.Store g.met.S.Store.images_tell (others_stay g.S.Store g.met.S.Store.images_tell (IsOfNext next) c.args.store.now) c.write_slot.new.store next.checkpoint c.as_str.result.now _ c.as_str.ensures (inl refl) c.write_slot.ensures.change in
    then_changed g.S.Store g.met.S.Store.images_tell sealed c.append.new.self next.file c.as_str-2.result.now _ c.as_str-2.ensures (inr (inl refl)) c.append.ensures.change

pub returns-in_err-sync-clause-beside : goal.returns-in_err-sync-clause-beside
returns-in_err-sync-clause-beside g c =
    let next = c.args.next.now in
    let sealed = then_changed g.S.Store g.met.S.Store.images_tell (others_stay g.S.Store g.met.S.Store.images_tell (IsOfNext next) c.args.store.now) c.write_slot.new.store next.checkpoint c.as_str.result.now _ c.as_str.ensures (inl refl) c.write_slot.ensures.change in
    let begun = then_changed g.S.Store g.met.S.Store.images_tell sealed c.append.new.self next.file c.as_str-2.result.now _ c.as_str-2.ensures (inr (inl refl)) c.append.ensures.change in
    then_synced g.S.Store g.met.S.Store.images_tell begun c.sync.new.self c.sync.ensures.settled

pub returns-in_err-write_slot-2-clause-beside : goal.returns-in_err-write_slot-2-clause-beside
returns-in_err-write_slot-2-clause-beside g c =
    let next = c.args.next.now in
    let sealed = then_changed g.S.Store g.met.S.Store.images_tell (others_stay g.S.Store g.met.S.Store.images_tell (IsOfNext next) c.args.store.now) c.write_slot.new.store next.checkpoint c.as_str.result.now _ c.as_str.ensures (inl refl) c.write_slot.ensures.change in
    let begun = then_changed g.S.Store g.met.S.Store.images_tell sealed c.append.new.self next.file c.as_str-2.result.now _ c.as_str-2.ensures (inr (inl refl)) c.append.ensures.change in
    let settled = then_synced g.S.Store g.met.S.Store.images_tell begun c.sync.new.self c.sync.ensures.settled in
    then_changed g.S.Store g.met.S.Store.images_tell settled c.write_slot-2.new.store next.head c.as_str-3.result.now _ c.as_str-3.ensures (inr (inr refl)) c.write_slot-2.ensures.change

pub returns-clause-beside : goal.returns-clause-beside
returns-clause-beside g c =
    let next = c.args.next.now in
    let sealed = then_changed g.S.Store g.met.S.Store.images_tell (others_stay g.S.Store g.met.S.Store.images_tell (IsOfNext next) c.args.store.now) c.write_slot.new.store next.checkpoint c.as_str.result.now _ c.as_str.ensures (inl refl) c.write_slot.ensures.change in
    let begun = then_changed g.S.Store g.met.S.Store.images_tell sealed c.append.new.self next.file c.as_str-2.result.now _ c.as_str-2.ensures (inr (inl refl)) c.append.ensures.change in
    let settled = then_synced g.S.Store g.met.S.Store.images_tell begun c.sync.new.self c.sync.ensures.settled in
    let headed = then_changed g.S.Store g.met.S.Store.images_tell settled c.write_slot-2.new.store next.head c.as_str-3.result.now _ c.as_str-3.ensures (inr (inr refl)) c.write_slot-2.ensures.change in
    then_synced g.S.Store g.met.S.Store.images_tell headed c.sync-2.new.self c.sync-2.ensures.settled
