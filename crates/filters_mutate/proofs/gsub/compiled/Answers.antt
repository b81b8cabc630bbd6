use Rattle.std.proofs.Common.{length, ap, arith}
use Rattle.filters_mutate.specs.Gsub.{are_patterns}
use Rattle.filters_mutate.proofs.Rows.{made_next, patterns_next}
use Rattle.filters_mutate.proofs.gsub.compiled.Goals as goal

pub loop-one-preserved : goal.loop-one-preserved
loop-one-preserved c =
    let l = c.loop-one in
    let next = c.in-Some.ensures.steps in
    let rest = c.next.new.self.rest.items in
    record {
      rest = made_next l.gsubs c.push.new.self c.in-Ok.gsub c.in-Some.one l.one-iterator.rest.items rest c.args.says c.in_ok-push-in-Ok.ensures.ok c.in-Ok.ensures.made next.0 l.invariant.rest;
      patterns = patterns_next c.in-Some.one l.one-iterator.rest.items rest (are_patterns c.args.says) next.0 c.in-Ok.ensures.pattern l.invariant.patterns;
      counted = omega (arith, l.invariant.counted, next.1, ap length next.0);
    }
