use Rattle.std.proofs.Common.{◌≡◌, sym, ap, ◌∙◌, subst, arith, rules, IfOk}
use Rattle.pattern_box.specs.Patterns.{pattern_re}
use Rattle.pattern_box.specs.Replacements.{substituted, substituted_by}
use Rattle.pattern_box.proofs.Written.{substituted_as_written}
use Rattle.filters_mutate.proofs.gsub.Gsub.replaced.Goals as goal

pub returns-clause-value : goal.returns-clause-value
returns-clause-value c =
    let g = c.self.inside in
    let text = c.args.text.now in
    let is : g.says ≡ c.args.self.now = search rules in
    subst (λ z. IfOk c.substitute.result (λ replaced. replaced ≡ z))
    (ap (λ parts. substituted_by (pattern_re g.pattern) parts text) c.as_slice.ensures
    ∙ substituted_as_written g.says.pattern text g.pattern c.self.invariant (λ k. omega (arith, c.type_inv.text k)) g.says.replacement
    ∙ ap (λ s. substituted s.pattern s.replacement text) is)
    c.substitute.ensures.value
