use Rattle.std.proofs.Common.{◌≡◌, ◌+◌, ◌<◌, length, drop, slice_get, true, false, ap, ◌∙◌, arith, rules}
use Rattle.filters_grok.specs.Grok.{ends, searched}
use Rattle.filters_grok.proofs.Fields.{field_ends, field_goes_on}
use Rattle.filters_grok.proofs.grok.search_fields.Goals as goal

pub returns-then-ends-clause-done : goal.returns-then-ends-clause-done
returns-then-ends-clause-done c =
    let fs = c.args.fields.now in
    let l = c.loop-index in
    let below : l.index < length fs = search (arith, rules) in
    let ended : ends c.args.how c.in_ok-found.found ≡ true = search rules in
    search (
      field_ends c.args.how fs l.index l.matched l.event c.search_at.new.event c.args.event.now c.in_ok-found.found below l.invariant.0
          (λ f is. c.in_ok-found.ensures.done f (ap (λ xs. slice_get xs l.index) l.invariant.1 ∙ is)) ended,
      rules,
    )

pub loop-index-preserved : goal.loop-index-preserved
loop-index-preserved c =
    let fs = c.args.fields.now in
    let l = c.loop-index in
    let below : l.index < length fs = search (arith, rules) in
    let goes : ends c.args.how c.in_ok-found.found ≡ false = search rules in (
      ap (λ m. searched c.args.how (drop (l.index + 1) fs) m c.search_at.new.event) c.matched_by_now-matched.ensures
          ∙ field_goes_on c.args.how fs l.index l.matched l.event c.search_at.new.event c.args.event.now c.in_ok-found.found below l.invariant.0
          (λ f is. c.in_ok-found.ensures.done f (ap (λ xs. slice_get xs l.index) l.invariant.1 ∙ is)) goes c.in_ok-found.ensures.missed,
      c.in_ok-found.ensures.same ∙ l.invariant.1,
    )
