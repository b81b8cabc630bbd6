use Rattle.std.proofs.Common.{subst}
use Rattle.io_traits.specs.Reads.{file_length}
use Rattle.slot_files.specs.PositionWrites.{OldOrNewPosition}
use Rattle.slot_files.proofs.LookedRuns.{length_told, same_position, looked_only, looked_then}
use Rattle.slot_files.proofs.opening.begin.Goals as goal

pub returns-in_err-length-clause-any_moment : goal.returns-in_err-length-clause-any_moment
returns-in_err-length-clause-any_moment g c =
    let position = file_length (g.S.Store.seen c.args.store.now c.args.path.now) in
    looked_only g.S.Store g.met.S.Store.images_tell c.args.store.now c.length.new.self c.args.slot.now (OldOrNewPosition 0 position) (same_position 0 position) c.length.ensures.same

pub returns-in_err-record_position-clause-any_moment : goal.returns-in_err-record_position-clause-any_moment
returns-in_err-record_position-clause-any_moment g c =
    let file = g.S.Store.seen c.args.store.now c.args.path.now in
    looked_then g.S.Store g.met.S.Store.images_tell c.args.store.now c.length.new.self c.args.slot.now (OldOrNewPosition 0 (file_length file)) (same_position 0 (file_length file)) c.in_ok-length.ensures.same
    c.record_position.new.store (OldOrNewPosition 0 c.unwrap_or-position.result) c.record_position.ensures.any_moment
    (λ told f h differs. subst (λ p. OldOrNewPosition 0 p f h) (length_told file c.in_ok-length.field-0 c.unwrap_or-position.result (c.in_ok-length.ensures.length told) c.unwrap_or-position.ensures) differs)

pub returns-clause-any_moment : goal.returns-clause-any_moment
returns-clause-any_moment g c =
    let file = g.S.Store.seen c.args.store.now c.args.path.now in
    looked_then g.S.Store g.met.S.Store.images_tell c.args.store.now c.length.new.self c.args.slot.now (OldOrNewPosition 0 (file_length file)) (same_position 0 (file_length file)) c.in_ok-length.ensures.same
    c.record_position.new.store (OldOrNewPosition 0 c.unwrap_or-position.result) c.record_position.ensures.any_moment
    (λ told f h differs. subst (λ p. OldOrNewPosition 0 p f h) (length_told file c.in_ok-length.field-0 c.unwrap_or-position.result (c.in_ok-length.ensures.length told) c.unwrap_or-position.ensures) differs)
