use Rattle.std.proofs.Common.{◌≡◌, [], length, arith, ap, subst, ◌∙◌, rules}
use Rattle.std.proofs.lemmas.List.{nil_from_length}
use Rattle.std.specs.Cmp.Lexicographic.{nat_list_cmp_total}
use Rattle.std.proofs.lemmas.List.Sorted.{ranks_by, answers_always}
use Rattle.event_json.specs.Gathered.{put_all}
use Rattle.event_json.proofs.Gathered.{by_key, put_sorted}
use Rattle.event_json.proofs.read.gathered.Goals as goal

pub returns : goal.returns
returns c =
    let none : length c.loop-key.key-iterator.rest.items ≡ 0 = omega (arith, c.loop-key.invariant.counted, c.in-None.ensures.steps.0) in
    let ended : c.loop-key.key-iterator.rest.items ≡ [] = nil_from_length _ none in
    let sorted : c.into_iter-key-iterator.result.rest.items ≡ c.sort_by.new.self.items = search rules in
    let found : put_all c.loop-key.found [] ≡ put_all [] c.sort_by.new.self.items = subst (λ l. put_all c.loop-key.found l ≡ put_all [] c.sort_by.new.self.items) ended (c.loop-key.invariant.rest ∙ ap (put_all []) sorted) in
    found ∙ put_sorted c.args.pairs.items c.sort_by.new.self.items (c.sort_by.ensures.stable by_key (ranks_by nat_list_cmp_total (λ p. p.0)) (answers_always _ _ _ (λ f a r g h. search rules)))
