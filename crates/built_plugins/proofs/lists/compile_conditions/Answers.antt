use Rattle.std.proofs.Common.{length, ap, ◌∙◌, arith}
use Rattle.built_plugins.specs.Conditions.{compiled}
use Rattle.built_plugins.specs.Each.{each_made}
use Rattle.built_plugins.proofs.Making.{behind, made_next}
use Rattle.built_plugins.proofs.lists.compile_conditions.Goals as goal

pub loop-condition-preserved : goal.loop-condition-preserved
loop-condition-preserved c =
    let l = c.loop-condition in
    let next = c.in-Some.ensures.steps in
    let rest = c.next.new.self.rest.items in
    record {
      so_far = ap (λ found. behind found (each_made compiled rest)) c.in_ok-push.ensures.ok
          ∙ made_next compiled c.args.conditions l.condition-iterator.rest.items l.found l.invariant.so_far rest c.in-Some.condition c.in_ok-new.field-0 next.0 c.in_ok-new.ensures;
      counted = omega (arith, l.invariant.counted, next.1, ap length next.0);
    }
