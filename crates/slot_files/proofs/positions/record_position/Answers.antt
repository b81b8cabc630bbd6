use Rattle.std.proofs.Common.{◌≡◌, ℕ, List, length, ap, ◌∙◌, arith}
use Rattle.std.proofs.Math.Path.{ap₂}
use Rattle.io_traits.specs.Reads.{bytes_of}
use Rattle.crc_frame.specs.Slots.{place_of, with_slot}
use Rattle.io_traits.proofs.TailRuns.{on_ok_so}
use Rattle.slot_files.specs.Positions.{recorded_in}
use Rattle.slot_files.proofs.PositionBytes.{length-spelling}
use Rattle.slot_files.proofs.PositionWrites.{written_records, position_moments}
use Rattle.slot_files.proofs.positions.record_position.Goals as goal

pub returns-clause-records : goal.returns-clause-records
returns-clause-records g c =
    let old = bytes_of (g.S.Store.seen c.args.store.now c.args.name.now) in
    let spelled = c.slot_of-slot.ensures.spelling in
    let wide : length c.slot_of-slot.result ≡ 24 = ap length spelled ∙ length-spelling c.args.turn c.args.position in
    on_ok_so c.write_slot.result c.write_slot.ensures.settled (λ s told comes.
    ap (λ f. recorded_in (bytes_of f)) (s.reads told) ∙ ap₂ (λ (n : ℕ) (b : List ℕ). recorded_in (with_slot (place_of n c.args.turn) b old)) wide spelled
    ∙ written_records c.args.turn c.args.position (omega arith) (omega arith) old comes)

pub returns-clause-any_moment : goal.returns-clause-any_moment
returns-clause-any_moment g c =
    let spelled = c.slot_of-slot.ensures.spelling in
    let wide : length c.slot_of-slot.result ≡ 24 = ap length spelled ∙ length-spelling c.args.turn c.args.position in
    position_moments c.args.turn c.args.position (omega arith) (omega arith) g.S.Store g.met.S.Store.images_tell c.args.name.now c.args.store.now c.write_slot.new.store
    c.slot_of-slot.result wide spelled c.write_slot.ensures.any_moment
