use Rattle.std.proofs.Common.{sym, ap, ◌∙◌, slice_set}
use Rattle.event_tree.proofs.Puts.{slice_set-same}
use Rattle.filters_grok.proofs.searching.search_by.Goals as goal

pub returns-in-Some-clause-same : goal.returns-in-Some-clause-same
returns-in-Some-clause-same c =
    ap (slice_set c.args.patterns.now c.args.number) c.find.ensures.same
    ∙ slice_set-same c.args.patterns.now c.args.number c.in-Some.pattern.now (sym c.in-Some.ensures.value)
