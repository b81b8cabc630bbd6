use Rattle.std.proofs.Common.{List, ℕ, ap, ◌∙◌, subst}
use Rattle.std.proofs.Math.Path.{ap₂}
use Rattle.io_traits.specs.Reads.{bytes_of}
use Rattle.crc_frame.specs.Slots.{place_of, with_slot}
use Rattle.io_traits.specs.Images.{TornFile}
use Rattle.io_traits.proofs.TailRuns.{Changes, on_ok_so}
use Rattle.io_traits.proofs.BesideRuns.{changed_beside}
use Rattle.slot_files.specs.Checkpoints.{newest_in, slot_spelling}
use Rattle.slot_files.proofs.SlotWrites.{written_says, leaves_old_or_new}
use Rattle.slot_files.proofs.checkpoint.Checkpoint.write_slot.Goals as goal

pub returns-clause-says : goal.returns-clause-says
returns-clause-says g c =
    let turn = c.args.turn in
    let s = c.args.state.now in
    let old = bytes_of (g.S.Store.seen c.args.store.now c.args.name.now) in
    on_ok_so c.write_at.result c.write_at.ensures.written (λ written told comes.
    ap (λ f. newest_in (bytes_of f)) (written told) ∙ ap₂ (λ (p : ℕ) (b : List ℕ). newest_in (with_slot p b old)) c.place_of.ensures c.slot_of-slot.ensures.spelling
    ∙ written_says turn s c.slot_of-slot.ensures.fits old comes)

pub returns-clause-any_moment : goal.returns-clause-any_moment
returns-clause-any_moment g c =
    let turn = c.args.turn in
    let s = c.args.state.now in
    let change : Changes g.S.Store c.args.store.now c.write_at.new.self c.args.name.now (TornFile (place_of 48 turn) (slot_spelling turn s)) =
    subst (λ (b : List ℕ). Changes g.S.Store c.args.store.now c.write_at.new.self c.args.name.now (TornFile (place_of 48 turn) b)) c.slot_of-slot.ensures.spelling
    (subst (λ (p : ℕ). Changes g.S.Store c.args.store.now c.write_at.new.self c.args.name.now (TornFile p c.slot_of-slot.result)) c.place_of.ensures c.write_at.ensures.change) in
    leaves_old_or_new turn s c.slot_of-slot.ensures.fits g.S.Store c.args.name.now c.args.store.now c.write_at.new.self change

pub returns-clause-beside : goal.returns-clause-beside
returns-clause-beside g c = changed_beside g.S.Store g.met.S.Store.images_tell c.args.name.now (TornFile c.place_of.result c.slot_of-slot.result) c.args.store.now c.write_at.new.self c.write_at.ensures.change
