use Rattle.std.proofs.Common.{◌≡◌, ℕ, List, ◌∷◌, ◌++◌, Some, true, IfOk, OnOk, drop, option_map, sym, ap, ◌∙◌, subst, rules}
use Rattle.std.specs.Prelude.{encode_utf8}
use Rattle.std.specs.Str.{chars, IsUtf8}
use Rattle.std.specs.Option.{option_and_then}
use Rattle.std.specs.Str.Iter.{chars_rest}
use Rattle.std.proofs.lemmas.Str.{chars_past_char}
use Rattle.filters_text.specs.Pairs.{closing, cut_at, enclosed, are_missing}
use Rattle.filters_text.specs.Views.{both_chars}
use Rattle.filters_text.proofs.Missing.{missing_tail, missing_first}
use Rattle.filters_text.proofs.kv_text.enclosed.Goals as goal

-- the characters of a text from which the first was read
behind_first : (s inside rest : List ℕ) (c : ℕ) → IsUtf8 s → s ≡ encode_utf8 c ++ rest → inside ≡ rest → chars s ≡ c ∷ chars inside
behind_first s inside rest c u is here = chars_past_char s rest c u is ∙ ap (λ l. c ∷ chars l) (sym here)

opened : (s inside : List ℕ) (c e : ℕ) → chars s ≡ c ∷ chars inside → closing c ≡ Some e → enclosed (chars s) ≡ cut_at e (chars inside)
opened s inside c e is closes = ap enclosed is ∙ ap (option_and_then (λ d. cut_at d (chars inside))) closes

pub returns-in_default-closing-clause-unclosed : goal.returns-in_default-closing-clause-unclosed
returns-in_default-closing-clause-unclosed c = missing_first c.args.unclosed.now.items (chars c.args.text.now) c.requires

pub closed-requires : goal.closed-requires
closed-requires c =
    let first = behind_first c.args.text.now c.as_str.result.now (chars_rest c.next.new.self) c.in-Some.first c.utf8.text (sym c.chars-inside.ensures.rest ∙ c.in-Some.ensures.steps.0) c.as_str.ensures in
    missing_tail c.args.unclosed.now.items c.in-Some.first (chars c.as_str.result.now) (subst (λ cs. are_missing c.args.unclosed.now.items cs ≡ true) first c.requires)

pub returns-clause-found : goal.returns-clause-found
returns-clause-found c =
    let first = behind_first c.args.text.now c.as_str.result.now (chars_rest c.next.new.self) c.in-Some.first c.utf8.text (sym c.chars-inside.ensures.rest ∙ c.in-Some.ensures.steps.0) c.as_str.ensures in
    let closes : closing c.in-Some.first ≡ Some c.in-Some-closing.closing = search rules in
    let same = opened c.args.text.now c.as_str.result.now c.in-Some.first c.in-Some-closing.closing first closes in
    subst (λ x. IfOk c.closed.result (λ found. option_map both_chars found ≡ x)) (sym same) c.closed.ensures.found

pub returns-clause-unclosed : goal.returns-clause-unclosed
returns-clause-unclosed c =
    let first = behind_first c.args.text.now c.as_str.result.now (chars_rest c.next.new.self) c.in-Some.first c.utf8.text (sym c.chars-inside.ensures.rest ∙ c.in-Some.ensures.steps.0) c.as_str.ensures in
    subst (λ cs. OnOk c.closed.result (are_missing c.closed.new.unclosed.items cs ≡ true)) (sym (ap (drop 1) first)) c.closed.ensures.unclosed
