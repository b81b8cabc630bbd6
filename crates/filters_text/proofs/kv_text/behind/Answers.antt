use Rattle.std.proofs.Common.{◌<◌, length, sym, ap, ◌∙◌, refl, arith, rules}
use Rattle.std.specs.Str.{chars}
use Rattle.std.specs.Char.{char_set_contains}
use Rattle.filters_text.specs.Pairs.{behind}
use Rattle.filters_text.proofs.CutChars.{prefix_found, prefix_none, grows}
use Rattle.filters_text.proofs.kv_text.behind.Goals as goal

pub loop-shorter-smaller : goal.loop-shorter-smaller
loop-shorter-smaller c =
    let cut = c.in-Some.ensures.cases in
    let found = cut.1 (char_set_contains c.args.set.now) (λ d. refl) in
    let less : length c.in-Some.shorter.now < length c.loop-shorter.rest.now = omega (arith, cut.3, grows found.0 c.loop-shorter.rest.now 0 cut.0 found.2) in
    less

pub loop-shorter-preserved : goal.loop-shorter-preserved
loop-shorter-preserved c =
    let set = c.args.set.now in
    let cut = c.in-Some.ensures.cases in
    let found = prefix_found set c.loop-shorter.rest.now c.loop-shorter.invariant.0 cut.0 (cut.1 (char_set_contains set) (λ d. refl)) in
    (search rules, ap (λ l. behind set (chars l)) cut.2 ∙ sym found.1 ∙ c.loop-shorter.invariant.1)

pub returns : goal.returns
returns c =
    let set = c.args.set.now in
    let none = prefix_none set c.loop-shorter.rest.now c.loop-shorter.invariant.0 (c.in_default.ensures.cases (char_set_contains set) (λ d. refl)) in
    sym none.1 ∙ c.loop-shorter.invariant.1
