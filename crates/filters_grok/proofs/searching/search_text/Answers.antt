use Rattle.std.proofs.Common.{◌<◌, length, slice_get, ap, ◌∙◌, arith, rules}
use Rattle.filters_grok.proofs.Finding.{patterns_more}
use Rattle.filters_grok.proofs.searching.search_text.Goals as goal

pub loop-number-preserved : goal.loop-number-preserved
loop-number-preserved c =
    let ps = c.args.patterns.now in
    let l = c.loop-number in
    let below : l.number < length ps = search (arith, rules) in (
      patterns_more c.args.how ps c.args.text.now l.number l.finds c.search_by.new.finds c.args.finds.now below l.invariant.0
          (λ p is. c.in_ok-search_by.ensures.found p (ap (λ xs. slice_get xs l.number) l.invariant.1 ∙ is)),
      c.in_ok-search_by.ensures.same ∙ l.invariant.1,
    )
