use Rattle.std.proofs.Common.{drop, sym, subst}
use Rattle.line_inputs.specs.Watching.{FirstHasRoom, Watching}
use Rattle.line_inputs.proofs.Together.{passed_room}
use Rattle.watch_tests.proofs.openings.add_next.Goals as goal

pub note_row-requires : goal.note_row-requires
note_row-requires c =
    let w = c.make_room.new.self in
    subst (λ (v : Watching). FirstHasRoom (drop v.given_at v.files)) (sym c.pass_on.ensures.passed_on) (passed_room w.files w.at c.in_ok-make_room.ensures.room)
