use Rattle.std.proofs.Common.{◌≡◌, Some, sym, ap, ◌∙◌, slice_set}
use Rattle.event_tree.proofs.Puts.{slice_set-same}
use Rattle.filters_mutate.proofs.gsub.substitute_at.Goals as goal

pub returns-in-Some-clause-same : goal.returns-in-Some-clause-same
returns-in-Some-clause-same c =
    ap (slice_set c.args.gsubs.now c.args.index) c.act.ensures.same
    ∙ slice_set-same c.args.gsubs.now c.args.index c.in-Some.gsub.now (sym c.in-Some.ensures.value)
