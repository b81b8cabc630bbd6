use Rattle.std.proofs.Common.{◌∷◌, [], subst, sym, ◌∙◌}
use Rattle.pattern_box.specs.Patterns.{IsReadFrom}
use Rattle.condition_eval.specs.Made.{Added, pattern_text}
use Rattle.condition_eval.proofs.Making.{added_one}
use Rattle.condition_eval.proofs.patterns.add_one.Goals as goal

pub returns-in-Ok-push-clause-made : goal.returns-in-Ok-push-clause-made
returns-in-Ok-push-clause-made c =
    let read : IsReadFrom (pattern_text c.args.written.now) c.in-Ok.pattern = subst (λ s. IsReadFrom s c.in-Ok.pattern) (c.as_str.ensures ∙ c.text_of.ensures) c.in-Ok.ensures.read in
    subst (Added (pattern_text c.args.written.now ∷ []) c.args.patterns.now) (sym c.in-Ok-push.ensures.ok) (added_one (pattern_text c.args.written.now) c.in-Ok.pattern c.args.patterns.now read)
