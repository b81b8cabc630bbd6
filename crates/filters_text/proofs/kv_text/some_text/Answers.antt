use Rattle.std.proofs.Common.{◌≡◌, ℕ, List, [], ◌∷◌, length, Some, sym, ap, ◌∙◌, refl, rules}
use Rattle.std.specs.Str.{chars}
use Rattle.std.proofs.lemmas.List.{nil_from_length}
use Rattle.std.proofs.lemmas.Str.{chars-nil, encodes-chars}
use Rattle.std.specs.Prelude.{encode_utf8_all}
use Rattle.filters_text.specs.Pairs.{some_text}
use Rattle.filters_text.proofs.kv_text.some_text.Goals as goal

filled : (cs s : List ℕ) → encode_utf8_all cs ≡ s → (length s ≡ 0 → ⊥) → Some cs ≡ some_text cs
filled [] s is some = absurd (some (ap length (sym is)))
filled (c ∷ cs) s is some = refl

pub returns-then-is_empty : goal.returns-then-is_empty
returns-then-is_empty c =
    let none : length c.args.text.now ≡ 0 = search rules in
    ap some_text (sym (ap chars (nil_from_length c.args.text.now none) ∙ chars-nil))

pub returns-else-is_empty : goal.returns-else-is_empty
returns-else-is_empty c =
    filled (chars c.args.text.now) c.args.text.now (encodes-chars c.args.text.now c.utf8.text) (λ none. search rules)
