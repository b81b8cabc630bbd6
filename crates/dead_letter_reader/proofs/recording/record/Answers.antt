use Rattle.std.proofs.Common.{◌≤◌, sym, subst}
use Rattle.io_traits.specs.Reads.{bytes_of, file_length}
use Rattle.crc_frame.specs.Slots.{place_of}
use Rattle.io_traits.specs.Moments.{EachMoment}
use Rattle.slot_files.specs.Changes.{Alters}
use Rattle.slot_files.specs.Slots.{ComesNext}
use Rattle.dead_letters.specs.Segments.{OldOrNewSegments, segments}
use Rattle.dead_letter_reader.proofs.Leaving.{comes, either_left, has_room}
use Rattle.dead_letter_reader.proofs.recording.record.Goals as goal

pub count_segments-requires-clause-room : goal.count_segments-requires-clause-room
count_segments-requires-clause-room g c = λ told.
    subst (λ t. place_of 32 t ≤ file_length (g.S.Store.seen c.args.store.now c.args.file.now)) (sym c.turn_after-turn.ensures.turn)
    (has_room (bytes_of (g.S.Store.seen c.args.store.now c.args.file.now)) c.args.recorded (c.requires.intact told) (c.requires.says.said told))

pub returns-in_err-count_segments-clause-any_moment : goal.returns-in_err-count_segments-clause-any_moment
returns-in_err-count_segments-clause-any_moment g c =
    let r = c.args.row.now in
    either_left g.S.Store g.met.S.Store.images_tell c.args.file.now c.args.recorded c.args.store.now c.count_segments.new.store c.requires.says c.requires.intact c.turn_after-turn.ensures.fits r
    (subst (λ t. EachMoment g.S.Store c.args.store.now c.count_segments.new.store (Alters g.S.Store c.args.file.now (OldOrNewSegments t (segments r.segment r.segment r.length)) c.args.store.now)) c.turn_after-turn.ensures.turn c.count_segments.ensures.any_moment)

pub returns-clause-any_moment : goal.returns-clause-any_moment
returns-clause-any_moment g c =
    let r = c.args.row.now in
    either_left g.S.Store g.met.S.Store.images_tell c.args.file.now c.args.recorded c.args.store.now c.count_segments.new.store c.requires.says c.requires.intact c.turn_after-turn.ensures.fits r
    (subst (λ t. EachMoment g.S.Store c.args.store.now c.count_segments.new.store (Alters g.S.Store c.args.file.now (OldOrNewSegments t (segments r.segment r.segment r.length)) c.args.store.now)) c.turn_after-turn.ensures.turn c.count_segments.ensures.any_moment)

pub returns-clause-says : goal.returns-clause-says
returns-clause-says g c =
    let next = comes g.S.Store g.met.S.Store.images_tell c.args.file.now c.args.recorded c.args.store.now c.count_segments.new.store c.requires.says c.requires.intact c.turn_after-turn.ensures.fits in
    record {
      said = λ told. c.in_ok-count_segments.ensures.counted told (subst (λ t. ComesNext 32 (bytes_of (g.S.Store.seen c.args.store.now c.args.file.now)) t) (sym c.turn_after-turn.ensures.turn) (next told));
      rests = λ i left. c.in_ok-count_segments.ensures.settled i left c.args.file.now;
    }
