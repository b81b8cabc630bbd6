use Rattle.std.proofs.Common.{◌≡◌, [], length, arith, ap, subst, ◌∙◌, rules}
use Rattle.std.proofs.lemmas.List.{nil_from_length}
use Rattle.std.specs.Cmp.Lexicographic.{nat_list_cmp_total}
use Rattle.std.proofs.lemmas.List.Sorted.{ranks_by, answers_always}
use Rattle.filters_text.specs.Kv.{all_added}
use Rattle.filters_text.proofs.Grouping.{by_name, group_sorted}
use Rattle.filters_text.proofs.kv_filter.grouped.Goals as goal

pub returns : goal.returns
returns c =
    let dup = c.args.duplicates in
    let none : length c.loop-name.name-iterator.rest.items ≡ 0 = omega (arith, c.loop-name.invariant.counted, c.in-None.ensures.steps.0) in
    let ended : c.loop-name.name-iterator.rest.items ≡ [] = nil_from_length _ none in
    let sorted : c.into_iter-name-iterator.result.rest.items ≡ c.sort_by.new.self.items = search rules in
    let found : all_added dup c.loop-name.groups [] ≡ all_added dup [] c.sort_by.new.self.items =
    subst (λ l. all_added dup c.loop-name.groups l ≡ all_added dup [] c.sort_by.new.self.items) ended (c.loop-name.invariant.rest ∙ ap (all_added dup []) sorted) in
    found ∙ group_sorted dup c.args.pairs.items c.sort_by.new.self.items (c.sort_by.ensures.stable by_name (ranks_by nat_list_cmp_total (λ p. p.0)) (answers_always _ _ _ (λ f a r g h. search rules)))
