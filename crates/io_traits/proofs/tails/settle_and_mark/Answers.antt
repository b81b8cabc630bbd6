use Rattle.std.proofs.Common.{List, [], Some, ap, ◌∙◌}
use Rattle.io_traits.specs.Reads.{bytes_of}
use Rattle.io_traits.specs.Images.{TornFile, overlaid}
use Rattle.io_traits.proofs.TailRuns.{on_ok_so, settled_by}
use Rattle.io_traits.proofs.BesideRuns.{beside_changed, beside_settled, beside_synced}
use Rattle.io_traits.proofs.SlotRuns.{slot_synced, slot_written, slot_settled}
use Rattle.io_traits.proofs.tails.settle_and_mark.Goals as goal

pub returns-in_err-sync-clause-any_moment : goal.returns-in_err-sync-clause-any_moment
returns-in_err-sync-clause-any_moment g c = λ page rows slots apart reads rest.
    slot_synced g.S.Store g.met.S.Store.images_tell page rows c.args.head.now c.args.at c.args.slot.now slots c.args.store.now reads rest c.sync.new.self c.sync.ensures.settled

pub returns-in_err-write_at-clause-any_moment : goal.returns-in_err-write_at-clause-any_moment
returns-in_err-write_at-clause-any_moment g c = λ page rows slots apart reads rest.
    slot_written g.S.Store g.met.S.Store.images_tell page rows c.args.head.now c.args.at c.args.slot.now slots c.args.store.now reads rest c.sync.new.self c.sync.ensures.settled apart c.in_ok-sync.ensures.durable c.write_at.new.self c.write_at.ensures.change

pub returns-in_err-write_at-clause-beside : goal.returns-in_err-write_at-clause-beside
returns-in_err-write_at-clause-beside g c =
    beside_changed g.S.Store g.met.S.Store.images_tell c.args.head.now (TornFile c.args.at c.args.slot.now) c.args.store.now c.sync.new.self c.write_at.new.self c.sync.ensures.settled c.write_at.ensures.change

pub returns-clause-any_moment : goal.returns-clause-any_moment
returns-clause-any_moment g c = λ page rows slots apart reads rest.
    slot_settled g.S.Store g.met.S.Store.images_tell page rows c.args.head.now c.args.at c.args.slot.now slots c.args.store.now reads rest c.sync.new.self c.sync.ensures.settled apart c.in_ok-sync.ensures.durable c.write_at.new.self c.write_at.ensures.change c.sync-2.new.self c.sync-2.ensures.settled

pub returns-clause-beside : goal.returns-clause-beside
returns-clause-beside g c =
    beside_settled g.S.Store g.met.S.Store.images_tell c.args.head.now (TornFile c.args.at c.args.slot.now) c.args.store.now c.sync.new.self c.write_at.new.self c.sync.ensures.settled c.write_at.ensures.change c.sync-2.new.self c.sync-2.ensures.settled

pub returns-clause-settled : goal.returns-clause-settled
returns-clause-settled g c = on_ok_so c.sync-2.result c.sync-2.ensures.durable (λ durable.
    settled_by g.S.Store g.met.S.Store.images_tell c.args.head.now [] [] c.write_at.new.self c.sync-2.new.self (overlaid c.args.at c.args.slot.now (bytes_of (g.S.Store.seen c.args.store.now c.args.head.now)))
    (λ told. c.in_ok-write_at.ensures.written told ∙ ap (λ content. Some (overlaid c.args.at c.args.slot.now (bytes_of (content c.args.head.now)))) (c.sync.ensures.settled.reads told)) c.sync-2.ensures.settled durable)
