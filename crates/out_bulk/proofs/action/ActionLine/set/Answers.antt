use Rattle.std.proofs.Common.{[], ◌∷◌, ◌++◌, sym, ap, ◌∙◌, rules}
use Rattle.httparse.specs.Ascii.{line_feed}
use Rattle.out_bulk.specs.Requests.{action_of}
use Rattle.out_bulk.specs.Settings.{target_of}
use Rattle.out_bulk.proofs.DayLines.{one_text}
use Rattle.out_bulk.proofs.action.ActionLine.set.Goals as goal

pub returns-then-goes_by_day-clause-kept : goal.returns-then-goes_by_day-clause-kept
returns-then-goes_by_day-clause-kept c event is =
    let index = (target_of c.args.settings.now).index in
    let by_day = c.goes_by_day.ensures (search (c.if-goes_by_day.true, rules)) in
    c.in_ok-write.ensures.line
    ∙ ap (λ name. action_of name ++ line_feed ∷ []) (one_text index c.args.event.now event by_day.0 _ _ by_day.1 (sym c.event_time-moment.ensures ∙ c.in-Some.is) c.of.ensures is)
