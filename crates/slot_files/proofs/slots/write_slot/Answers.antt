use Rattle.std.proofs.Common.{◌<◌, ℕ, Some, length, ap, ◌∙◌, subst, arith}
use Rattle.io_traits.specs.Reads.{bytes_of}
use Rattle.crc_frame.specs.Slots.{place_of, with_slot}
use Rattle.io_traits.specs.Images.{TornFile}
use Rattle.io_traits.proofs.TailRuns.{Changes}
use Rattle.slot_files.specs.Slots.{OldOrNew}
use Rattle.slot_files.proofs.Altering.{altered, altered_settled}
use Rattle.slot_files.proofs.NewestSlots.{same_old_or_new, torn_old_or_new, written_old_or_new}
use Rattle.slot_files.proofs.slots.write_slot.Goals as goal

pub returns-in_err-write_at-clause-any_moment : goal.returns-in_err-write_at-clause-any_moment
returns-in_err-write_at-clause-any_moment g c =
    let slot = c.args.slot.now in
    let wide : 0 < length slot = omega (arith, c.requires.wide) in
    let change = subst (λ p. Changes g.S.Store c.args.store.now c.write_at.new.self c.args.name.now (TornFile p slot)) c.place_of.ensures c.write_at.ensures.change in
    altered g.S.Store g.met.S.Store.images_tell c.args.name.now (TornFile (place_of (length slot) c.args.turn) slot) (OldOrNew (length slot) c.args.turn slot)
    (same_old_or_new (length slot) c.args.turn slot wide c.requires.slot) (torn_old_or_new (length slot) c.args.turn slot wide c.requires.slot) c.args.store.now c.write_at.new.self change

pub returns-clause-any_moment : goal.returns-clause-any_moment
returns-clause-any_moment g c =
    let slot = c.args.slot.now in
    let file = g.S.Store.seen c.args.store.now c.args.name.now in
    let wide : 0 < length slot = omega (arith, c.requires.wide) in
    let change = subst (λ p. Changes g.S.Store c.args.store.now c.write_at.new.self c.args.name.now (TornFile p slot)) c.place_of.ensures c.write_at.ensures.change in
    altered_settled g.S.Store g.met.S.Store.images_tell c.args.name.now (TornFile (place_of (length slot) c.args.turn) slot) (OldOrNew (length slot) c.args.turn slot)
    (same_old_or_new (length slot) c.args.turn slot wide c.requires.slot) (torn_old_or_new (length slot) c.args.turn slot wide c.requires.slot) c.args.store.now c.write_at.new.self change
    c.sync.new.self c.sync.ensures.settled
    (λ told. written_old_or_new (length slot) c.args.turn slot wide c.requires.slot file (g.S.Store.seen c.write_at.new.self c.args.name.now)
    (c.in_ok-write_at.ensures.written told ∙ ap (λ (p : ℕ). Some (with_slot p slot (bytes_of file))) c.place_of.ensures))
