use Rattle.std.proofs.Common.{◌≡◌, ◌++◌, length, ap, ◌∙◌, arith, rules, true, false}
use Rattle.event_flow.specs.Places.{once}
use Rattle.built_plugins.proofs.Onces.{is_among, others, once_starts, passed_over, put_behind}
use Rattle.built_plugins.proofs.places.once.Goals as goal

pub loop-text-init : goal.loop-text-init
loop-text-init c = record {
  so_far = once_starts c.new-found.result c.into_iter-text-iterator.result.rest.items c.args.texts c.new-found.ensures (search rules);
  counted = search rules;
}

pub loop-text-preserved-in-Continue-1 : goal.loop-text-preserved-in-Continue-1
loop-text-preserved-in-Continue-1 c =
    let l = c.loop-text in
    let next = c.in-Some.ensures.steps in
    let other : false ≡ is_among l.found c.in-Some.text = search rules in
    let rest = c.next.new.self.rest.items in
    record {
      so_far = ap (λ f. f ++ others f (once rest)) c.in_ok-push.ensures.ok ∙ put_behind l.found l.text-iterator.rest.items rest c.args.texts c.in-Some.text next.0 l.invariant.so_far other;
      counted = omega (arith, l.invariant.counted, next.1, ap length next.0);
    }

pub loop-text-preserved : goal.loop-text-preserved
loop-text-preserved c =
    let l = c.loop-text in
    let next = c.in-Some.ensures.steps in
    let among : true ≡ is_among l.found c.in-Some.text = search rules in
    record {
      so_far = passed_over l.found l.text-iterator.rest.items c.next.new.self.rest.items c.args.texts c.in-Some.text next.0 l.invariant.so_far among;
      counted = omega (arith, l.invariant.counted, next.1, ap length next.0);
    }
