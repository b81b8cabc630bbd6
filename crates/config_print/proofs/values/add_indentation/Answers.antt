use Rattle.std.proofs.Common.{◌≡◌, suc, ◌+◌, ◌-◌, ◌++◌, sym, ap, ◌∙◌, append_assoc, string_bytes, arith}
use Rattle.std.specs.Prelude.{codes}
use Rattle.config_print.specs.Printed.{indentation}
use Rattle.config_print.proofs.values.add_indentation.Goals as goal

pub loop-level-preserved : goal.loop-level-preserved
loop-level-preserved c =
    let n = c.args.levels in
    let i = c.loop-level.level in
    let old = string_bytes c.loop-level.to in
    let one : n - i ≡ suc (n - (i + 1)) = omega (arith, c.loop-level-test.true) in
    ap (λ z. z ++ indentation (n - (i + 1))) c.in_ok-push_str.ensures.bytes ∙ append_assoc old (codes "  ") (indentation (n - (i + 1))) ∙ ap (λ k. old ++ indentation k) (sym one) ∙ c.loop-level.invariant
