use Rattle.std.proofs.Common.{◌≡◌, ℕ, List, length, ap, ◌∙◌, subst, arith}
use Rattle.std.proofs.Math.Path.{ap₂}
use Rattle.io_traits.specs.Reads.{bytes_of}
use Rattle.crc_frame.specs.Slots.{place_of, with_slot}
use Rattle.io_traits.specs.Moments.{EachMoment}
use Rattle.io_traits.proofs.TailRuns.{on_ok_so}
use Rattle.slot_files.specs.Changes.{Alters}
use Rattle.slot_files.specs.Slots.{OldOrNewSaid}
use Rattle.slot_files.proofs.Saying.{written_said, said_moments}
use Rattle.dead_letters.specs.Segments.{AreSegments, slot_spelling, slot_says, damaged_at_first, counted_in}
use Rattle.dead_letters.specs.declared.segments.Counted.TheVariants.{Nothing}
use Rattle.dead_letters.proofs.SegmentSlots.{length-spelling, spelling_is_slot, spelling_says}
use Rattle.dead_letters.proofs.naming.count_segments.Goals as goal

pub returns-clause-counted : goal.returns-clause-counted
returns-clause-counted g c =
    let turn = c.args.turn in
    let s = c.args.segments in
    let old = bytes_of (g.S.Store.seen c.args.store.now c.args.name.now) in
    let are : AreSegments s = record { first = omega arith; last = omega arith; length = omega arith; order = c.requires.order } in
    let spelled = c.slot_of-slot.ensures.spelling in
    let wide : length c.slot_of-slot.result ≡ 32 = ap length spelled ∙ length-spelling turn s in
    on_ok_so c.write_slot.result c.write_slot.ensures.settled (λ t told comes.
    ap (λ f. counted_in (bytes_of f)) (t.reads told) ∙ ap₂ (λ (n : ℕ) (b : List ℕ). counted_in (with_slot (place_of n turn) b old)) wide spelled
    ∙ written_said slot_says damaged_at_first Nothing 32 (omega arith) turn (slot_spelling turn s) (spelling_is_slot turn s (omega arith)) old comes
    ∙ spelling_says turn s (omega arith) are)

pub returns-clause-any_moment : goal.returns-clause-any_moment
returns-clause-any_moment g c =
    let turn = c.args.turn in
    let s = c.args.segments in
    let are : AreSegments s = record { first = omega arith; last = omega arith; length = omega arith; order = c.requires.order } in
    let spelled = c.slot_of-slot.ensures.spelling in
    let wide : length c.slot_of-slot.result ≡ 32 = ap length spelled ∙ length-spelling turn s in
    subst (λ r. EachMoment g.S.Store c.args.store.now c.write_slot.new.store (Alters g.S.Store c.args.name.now (OldOrNewSaid slot_says damaged_at_first Nothing 32 turn r) c.args.store.now)) (spelling_says turn s (omega arith) are)
    (said_moments slot_says damaged_at_first Nothing 32 (omega arith) turn (slot_spelling turn s) (spelling_is_slot turn s (omega arith)) g.S.Store g.met.S.Store.images_tell c.args.name.now c.args.store.now c.write_slot.new.store
    c.slot_of-slot.result wide spelled c.write_slot.ensures.any_moment)
