use Rattle.std.proofs.Common.{◌<◌, ◌-◌, length, sym, ap, subst, ◌∙◌, refl, arith, rules}
use Rattle.std.specs.Str.{chars, IsUtf8}
use Rattle.std.specs.Char.{char_set_contains}
use Rattle.filters_text.specs.Pairs.{before}
use Rattle.filters_text.proofs.CutChars.{suffix_found, suffix_none, grows}
use Rattle.filters_text.proofs.kv_text.before.Goals as goal

pub loop-shorter-smaller : goal.loop-shorter-smaller
loop-shorter-smaller c =
    let cut = c.in-Some.ensures.cases in
    let text = c.loop-shorter.rest.now in
    let found = cut.1 (char_set_contains c.args.set.now) (λ d. refl) in
    let less : length c.in-Some.shorter.now < length text = omega (arith, cut.3, grows found.0 text (length text - cut.0) (length text) found.2) in
    less

pub loop-shorter-preserved : goal.loop-shorter-preserved
loop-shorter-preserved c =
    let set = c.args.set.now in
    let text = c.loop-shorter.rest.now in
    let cut = c.in-Some.ensures.cases in
    let front : IsUtf8 c.in-Some.shorter.now = search rules in
    let found = suffix_found set text c.loop-shorter.invariant.0 cut.0 (subst IsUtf8 cut.2 front) (cut.1 (char_set_contains set) (λ d. refl)) in
    (front, ap (λ l. before set (chars l)) cut.2 ∙ sym found ∙ c.loop-shorter.invariant.1)

pub returns : goal.returns
returns c =
    let set = c.args.set.now in
    sym (suffix_none set c.loop-shorter.rest.now c.loop-shorter.invariant.0 (c.in_default.ensures.cases (char_set_contains set) (λ d. refl))) ∙ c.loop-shorter.invariant.1
