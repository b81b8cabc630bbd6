use Rattle.std.proofs.Common.{◌≡◌, ap, ◌∙◌, subst, arith, rules, IfOk}
use Rattle.filters_grok.specs.Matches.{spans_in}
use Rattle.filters_grok.proofs.Matching.{found_as_written}
use Rattle.filters_grok.proofs.grok_pattern.GrokPattern.spans.Goals as goal

pub returns-clause-found : goal.returns-clause-found
returns-clause-found c =
    let p = c.self.inside in
    let text = c.args.text.now in
    let is : p.says ≡ c.args.self.now = search rules in
    subst (λ z. IfOk c.spans.result (λ found. found ≡ z))
    (found_as_written p.says.text text p.pattern c.self.invariant (λ k. omega (arith, c.type_inv.text k)) ∙ ap (λ s. spans_in s.text text) is)
    c.spans.ensures.found
