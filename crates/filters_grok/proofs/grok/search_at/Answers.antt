use Rattle.std.proofs.Common.{sym, ap, ◌∙◌, slice_set}
use Rattle.event_tree.proofs.Puts.{slice_set-same}
use Rattle.filters_grok.proofs.grok.search_at.Goals as goal

pub returns-in-Some-clause-same : goal.returns-in-Some-clause-same
returns-in-Some-clause-same c =
    ap (slice_set c.args.fields.now c.args.index) c.search_field.ensures.same
    ∙ slice_set-same c.args.fields.now c.args.index c.in-Some.field.now (sym c.in-Some.ensures.value)
