use Rattle.std.proofs.Common.{rules, ◌≡◌, ℕ, ◌+◌, ◌==◌, not, true, false, List, [], ◌∷◌, ◌++◌, take, drop, length, Option, Some, None, ◌∙◌, sym, ap, subst, arith}
use Rattle.filters_date.specs.Formats.{items_behind, letters_item, run_length, is_plain}
use Rattle.filters_date.proofs.Letters.{with_front, at_end, at_quote, at_plain, at_letters, at_no_item}
use Rattle.filters_date.proofs.format.read_letters.Goals as goal

pub loop-first-preserved-then-first-eq39 : goal.loop-first-preserved-then-first-eq39
loop-first-preserved-then-first-eq39 c =
    let l = c.loop-first in
    let whole : l.rest.now ≡ c.in-Some.first.now ∷ c.in-Some.behind.now = search rules in
    let is : (c.in-Some.first.now == 39) ≡ true = search rules in
    sym (at_quote l.items l.quoted c.in-Some.first.now l.rest.now c.in-Some.behind.now whole is) ∙ l.invariant

pub loop-first-preserved-then-is_plain : goal.loop-first-preserved-then-is_plain
loop-first-preserved-then-is_plain c =
    let l = c.loop-first in
    let whole : l.rest.now ≡ c.in-Some.first.now ∷ c.in-Some.behind.now = search rules in
    let other : (c.in-Some.first.now == 39) ≡ false = search rules in
    let plain : is_plain l.quoted c.in-Some.first.now ≡ true = search rules in
    search (sym (at_plain l.items l.quoted c.in-Some.first.now l.rest.now c.in-Some.behind.now whole other plain) ∙ l.invariant, rules)

pub returns-in_default-letters_item : goal.returns-in_default-letters_item
returns-in_default-letters_item c =
    let l = c.loop-first in
    let whole : l.rest.now ≡ c.in-Some.first.now ∷ c.in-Some.behind.now = search rules in
    let other : (c.in-Some.first.now == 39) ≡ false = search rules in
    let letter : is_plain l.quoted c.in-Some.first.now ≡ false = search rules in
    let none : letters_item c.in-Some.first.now (run_length c.in-Some.first.now c.in-Some.behind.now + 1) ≡ None = search rules in
    sym (at_no_item l.items l.quoted c.in-Some.first.now l.rest.now c.in-Some.behind.now whole other letter none) ∙ l.invariant

pub loop-first-preserved : goal.loop-first-preserved
loop-first-preserved c =
    let l = c.loop-first in
    let whole : l.rest.now ≡ c.in-Some.first.now ∷ c.in-Some.behind.now = search rules in
    let other : (c.in-Some.first.now == 39) ≡ false = search rules in
    let letter : is_plain l.quoted c.in-Some.first.now ≡ false = search rules in
    let item : letters_item c.in-Some.first.now (run_length c.in-Some.first.now c.in-Some.behind.now + 1) ≡ Some c.in-Some-letters_item.item = search rules in
    let more = at_letters l.items l.quoted c.in-Some.first.now l.rest.now c.in-Some.behind.now whole other letter c.in-Some-letters_item.item item in
    let added : c.push-else-is_plain.new.self ≡ l.items ++ c.in-Some-letters_item.item ∷ [] = search rules in
    let left : c.split_at.result.1.now ≡ drop (run_length c.in-Some.first.now c.in-Some.behind.now) c.in-Some.behind.now =
    c.split_at.ensures.back ∙ ap (λ n. drop n c.in-Some.behind.now) c.run_length-more.ensures.value in
    ap (λ is. with_front is (items_behind 0 l.quoted c.split_at.result.1.now)) added
    ∙ ap (λ r. with_front (l.items ++ c.in-Some-letters_item.item ∷ []) (items_behind 0 l.quoted r)) left ∙ sym more ∙ l.invariant

pub returns-then-quoted : goal.returns-then-quoted
returns-then-quoted c =
    let l = c.loop-first in
    let none : length l.rest.now ≡ 0 = search rules in
    let quoted : l.quoted ≡ true = search rules in
    search (sym (at_end l.items l.quoted l.rest.now none) ∙ l.invariant, quoted, rules)

pub returns : goal.returns
returns c =
    let l = c.loop-first in
    let none : length l.rest.now ≡ 0 = search rules in
    let quoted : l.quoted ≡ false = search rules in
    search (sym (at_end l.items l.quoted l.rest.now none) ∙ l.invariant, quoted, rules)
