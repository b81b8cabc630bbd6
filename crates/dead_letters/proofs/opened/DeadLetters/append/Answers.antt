use Rattle.std.proofs.Common.{◌≤◌, length, sym, ap, ◌∙◌, subst, arith}
use Rattle.std.specs.Prelude.{Contains}
use Rattle.std.specs.List.{sum}
use Rattle.io_traits.specs.Reads.{bytes_of, file_length}
use Rattle.crc_frame.specs.Slots.{place_of}
use Rattle.dead_letters.specs.Queues.{names, name_in}
use Rattle.dead_letters.specs.Views.{names_from, last_of, named, joining, taken_by}
use Rattle.dead_letters.proofs.AppendRun.{untouched, none_names}
use Rattle.dead_letters.proofs.Growing.{names_length}
use Rattle.dead_letters.proofs.Joining.{pieces_within, pieces_fit}
use Rattle.dead_letters.proofs.SegmentSlots.{counted_have_room}
use Rattle.dead_letters.proofs.opened.DeadLetters.append.Goals as goal

pub returns-then-is_over-clause-any_moment : goal.returns-then-is_over-clause-any_moment
returns-then-is_over-clause-any_moment g c = untouched g.S.Store g.met.S.Store.images_tell c.args.self.now c.args.letters.now c.args.store.now c.requires.ready

pub returns-in_err-plan-clause-any_moment : goal.returns-in_err-plan-clause-any_moment
returns-in_err-plan-clause-any_moment g c = untouched g.S.Store g.met.S.Store.images_tell c.args.self.now c.args.letters.now c.args.store.now c.requires.ready

pub carry_out-requires-clause-each : goal.carry_out-requires-clause-each
carry_out-requires-clause-each g c =
    let plan = c.in_ok-plan.ensures in
    ap length plan.joins.pieces ∙ sym (ap length plan.names ∙ names_length _ _ _)

pub carry_out-requires-clause-within : goal.carry_out-requires-clause-within
carry_out-requires-clause-within g c =
    let plan = c.in_ok-plan.ensures in
    omega (arith, ap sum plan.joins.pieces, ap length plan.joins.bytes, pieces_within c.args.self.now c.args.letters.now c.requires.ready.some c.requires.ready.numbers)

pub carry_out-requires-clause-apart : goal.carry_out-requires-clause-apart
carry_out-requires-clause-apart g c = λ has.
    let plan = c.in_ok-plan.ensures in
    let q = c.args.self.now in
    let count = length (taken_by q (joining q c.args.letters.now)) in
    let among : Contains (names_from q.folder (last_of q) count) c.in_ok-plan.plan.slot = subst (λ l. Contains l c.in_ok-plan.plan.slot) plan.names has in
    none_names q.folder (last_of q) count (pieces_fit q c.args.letters.now c.requires.ready.some c.requires.ready.numbers) (subst (Contains (names_from q.folder (last_of q) count)) plan.slot among)

pub carry_out-requires-clause-room : goal.carry_out-requires-clause-room
carry_out-requires-clause-room g c = λ told.
    let plan = c.in_ok-plan.ensures in
    let q = c.args.self.now in
    let turn = c.in_ok-plan.plan.turn in
    let room = (counted_have_room (bytes_of (g.S.Store.seen c.args.store.now (name_in q.folder names))) q.turn (named q) (c.requires.ready.said told).counted).room turn in
    subst (λ n. place_of 32 turn ≤ file_length (g.S.Store.seen c.args.store.now n)) (sym plan.slot) room
