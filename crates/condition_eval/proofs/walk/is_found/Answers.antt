use Rattle.std.proofs.Common.{ap, ◌∙◌, arith}
use Rattle.std.specs.Prelude.{is_some}
use Rattle.condition_eval.specs.Made.{pattern_text}
use Rattle.condition_eval.proofs.Finding.{found_by_pattern, is_some_mapped}
use Rattle.condition_eval.proofs.walk.is_found.Goals as goal

pub returns-clause-found : goal.returns-clause-found
returns-clause-found c = c.is_some.ensures ∙ ap is_some c.in_ok-spans.ensures.found ∙ is_some_mapped _ _ ∙ found_by_pattern (pattern_text c.args.written.now) c.args.text.now c.args.pattern.now c.requires (λ k. omega (arith, c.type_inv.text k))
