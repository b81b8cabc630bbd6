use Rattle.std.proofs.Common.{◌≡◌, ◌∷◌, ◌++◌, sym, ap, ◌∙◌, append_assoc, append-nil, [], rules}
use Rattle.std.proofs.lemmas.List.{nil_from_length}
use Rattle.std.proofs.lemmas.Str.{chars_past_char, IsUtf8-past_char, chars-nil}
use Rattle.std.specs.Prelude.{chars, encode_utf8}
use Rattle.std.specs.Str.Iter.{chars_rest}
use Rattle.filters_text.proofs.kv_filter.characters.Goals as goal

pub loop-character-preserved : goal.loop-character-preserved
loop-character-preserved c =
    let front = c.loop-character.character-iterator in
    let rest = chars_rest c.next.new.self in
    let is : chars_rest front ≡ encode_utf8 c.in-Some.character ++ rest = c.in-Some.ensures.steps.0 in
    let first : chars (chars_rest front) ≡ c.in-Some.character ∷ chars rest = chars_past_char _ _ _ c.loop-character.invariant.1 is in (
      ap (λ found. found ++ chars rest) (search rules) ∙ append_assoc c.loop-character.found (c.in-Some.character ∷ []) (chars rest)
          ∙ ap (λ cs. c.loop-character.found ++ cs) (sym first) ∙ c.loop-character.invariant.0,
      IsUtf8-past_char _ _ _ c.loop-character.invariant.1 is,
    )

pub returns : goal.returns
returns c =
    let none : chars_rest c.loop-character.character-iterator ≡ [] = nil_from_length _ c.in-None.ensures.steps.0.0 in
    sym (append-nil c.loop-character.found) ∙ ap (λ cs. c.loop-character.found ++ cs) (sym (ap chars none ∙ chars-nil)) ∙ c.loop-character.invariant.0
