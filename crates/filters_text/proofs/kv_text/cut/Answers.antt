use Rattle.std.proofs.Common.{◌∙◌, sym, ap, refl, length, arith}
use Rattle.std.specs.Str.{chars}
use Rattle.std.specs.Char.{char_set_contains}
use Rattle.std.proofs.lemmas.List.{take_all, drop_all}
use Rattle.std.proofs.lemmas.Str.{chars-nil}
use Rattle.filters_text.proofs.CutChars.{pairs, cut_found, cut_none}
use Rattle.filters_text.proofs.kv_text.cut.Goals as goal

pub returns-in-Some : goal.returns-in-Some
returns-in-Some c =
    let set = c.args.set.now in
    let text = c.args.text.now in
    let found = c.in-Some.ensures.cases in
    let cutting = cut_found set text c.utf8.text c.in-Some.at found.0 found.3 (found.1 (char_set_contains set) (λ d. refl)) in
    pairs _ _ _ _ (ap chars c.split_at.ensures.front ∙ sym cutting.0) (ap chars c.split_at.ensures.back ∙ sym cutting.1)

pub returns-in-None : goal.returns-in-None
returns-in-None c =
    let set = c.args.set.now in
    let text = c.args.text.now in
    let cutting = cut_none set text c.utf8.text (c.in-None.ensures.cases (char_set_contains set) (λ d. refl)) in
    let front = c.split_at-in-None.ensures.front ∙ take_all (length text) text (omega arith) in
    let back = c.split_at-in-None.ensures.back ∙ drop_all (length text) text (omega arith) in
    pairs _ _ _ _ (ap chars front ∙ sym cutting.0) (ap chars back ∙ chars-nil ∙ sym cutting.1)
