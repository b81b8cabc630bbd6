use Rattle.std.proofs.Common.{drop, sym, ap, subst, ◌∙◌}
use Rattle.line_inputs.specs.Sources.{NextHasRoom}
use Rattle.line_inputs.specs.Sources.{events_held as source_events}
use Rattle.line_inputs.specs.Watching.{FirstHasRoom, Watching, events_held}
use Rattle.line_inputs.proofs.Together.{passed_events, passed_room}
use Rattle.line_inputs.proofs.source.InputSource.pass_on.Goals as goal

pub returns-in-Files-clause-events : goal.returns-in-Files-clause-events
returns-in-Files-clause-events c =
    let w = c.in-Files.input in
    ap events_held c.pass_on.ensures.passed_on ∙ passed_events w.files w.at ∙ ap source_events (sym c.in-Files.is)

pub returns-in-Files-clause-room : goal.returns-in-Files-clause-room
returns-in-Files-clause-room c = λ room.
    let w = c.in-Files.input in
    subst (λ (v : Watching). FirstHasRoom (drop v.given_at v.files)) (sym c.pass_on.ensures.passed_on) (passed_room w.files w.at (subst NextHasRoom c.in-Files.is room))
