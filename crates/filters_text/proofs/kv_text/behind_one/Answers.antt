use Rattle.std.proofs.Common.{◌≡◌, ℕ, Bool, List, Option, Some, None, MatchOption, option_map, Bor, ◌∙◌, sym, ap, refl}
use Rattle.std.specs.Str.{chars, IsUtf8}
use Rattle.std.specs.Char.{char_set_contains}
use Rattle.std.specs.Str.Pattern.{StripsPrefix, FindsPrefixBy}
use Rattle.filters_text.specs.Pairs.{behind_one}
use Rattle.filters_text.proofs.CutChars.{prefix_found, prefix_none}
use Rattle.filters_text.proofs.kv_text.behind_one.Goals as goal

abbrev Gives : List ℕ → List ℕ → Option ℕ → Type 0
Gives set s r = (k : ℕ → Bool) → ((c : ℕ) → char_set_contains set c ≡ k c) → FindsPrefixBy k s r

answer : (set s : List ℕ) (u : IsUtf8 s) (r : Option (Bor (List ℕ))) → MatchOption r (Gives set s None) (λ x. StripsPrefix (Gives set) s x.now)
    → option_map (λ rest. chars rest.now) r ≡ behind_one set (chars s)
answer set s u None none = sym (prefix_none set s u (none (char_set_contains set) (λ c. refl))).0
answer set s u (Some x) found = ap (λ l. Some (chars l)) found.2 ∙ sym (prefix_found set s u found.0 (found.1 (char_set_contains set) (λ c. refl))).0

pub returns : goal.returns
returns c = answer c.args.set.now c.args.text.now c.utf8.text c.strip_prefix.result c.strip_prefix.ensures.cases
