use Rattle.std.proofs.Common.{◌≡◌, ◌<◌, List, length, slice_get, Bool, true, false, sym, ap, ◌∙◌, arith, rules}
use Rattle.filters_mutate.specs.Operations.{substituted_at}
use Rattle.filters_mutate.proofs.Substitutions.{one_at, one_more, one_fails}
use Rattle.filters_mutate.proofs.gsub.substitute_all.Goals as goal

pub returns-then-not-branch-clause-done : goal.returns-then-not-branch-clause-done
returns-then-not-branch-clause-done c =
    let gsubs = c.args.gsubs.now in
    let l = c.loop-index in
    let below : l.index < length gsubs = search (arith, rules) in
    let ill : c.in_ok-substitute_at.field-0 ≡ false = search rules in
    one_fails substituted_at (one_at gsubs l.index below) gsubs l.index l.event c.substitute_at.new.event c.args.event.now c.in_ok-substitute_at.field-0 below l.invariant.0
    (λ g is. c.in_ok-substitute_at.ensures.done g (ap (λ xs. slice_get xs l.index) l.invariant.1 ∙ is)) ill

pub loop-index-preserved : goal.loop-index-preserved
loop-index-preserved c =
    let gsubs = c.args.gsubs.now in
    let l = c.loop-index in
    let below : l.index < length gsubs = search (arith, rules) in
    let well : c.in_ok-substitute_at.field-0 ≡ true = search rules in (
      one_more substituted_at (one_at gsubs l.index below) gsubs l.index l.event c.substitute_at.new.event c.args.event.now c.in_ok-substitute_at.field-0 below l.invariant.0
          (λ g is. c.in_ok-substitute_at.ensures.done g (ap (λ xs. slice_get xs l.index) l.invariant.1 ∙ is)) well,
      c.in_ok-substitute_at.ensures.same ∙ l.invariant.1,
    )
