use Rattle.std.proofs.Common.{◌≡◌, IfOk, subst, sym, length}
use Rattle.std.specs.List.{sum_by}
use Rattle.built_plugins.specs.Counts.{built_patterns}
use Rattle.built_plugins.proofs.built.BuiltFilter.count_patterns.Goals as goal

pub returns-in-Grok : goal.returns-in-Grok
returns-in-Grok c =
    subst (λ f. IfOk c.in_fields.result (λ count. count ≡ built_patterns f)) (sym c.in-Grok.is)
    (subst (λ xs. IfOk c.in_fields.result (λ count. count ≡ sum_by (λ f. length f.1) xs)) c.as_slice.ensures c.in_fields.ensures)
