-- The field that a pair sets.
use Rattle.std.proofs.Common.{◌≡◌, ℕ, true, false, List, [], ◌∷◌, ◌++◌, sym, ap, ◌∙◌, refl}
use Rattle.std.specs.Prelude.{chars, encode_utf8_all}
use Rattle.std.specs.Str.{IsUtf8}
use Rattle.std.proofs.lemmas.Str.{encodes-chars}
use Rattle.filters_text.specs.Pairs.{trimmed}
use Rattle.filters_text.specs.declared.kv_filter.Kv.{Kv}
use Rattle.filters_text.specs.Kv.{trimmed_bytes, is_wanted, field_of}

pub trimmed_is : (set other cs k : List ℕ) → IsUtf8 k → chars k ≡ trimmed set cs → set ≡ other → k ≡ trimmed_bytes other cs
trimmed_is set other cs k u is same = sym (encodes-chars k u) ∙ ap encode_utf8_all (is ∙ ap (λ s. trimmed s cs) same)

module _ (f : Kv) (key value k : List ℕ) (k_is : k ≡ trimmed_bytes f.trim_key key) where
  pub field_kept : (t : List ℕ) → t ≡ trimmed_bytes f.trim_value value → is_wanted f k ≡ true → field_of f (key, value) ≡ (f.prefix ++ k, t) ∷ []
  field_kept t t_is wanted =
      let w : is_wanted f (trimmed_bytes f.trim_key key) ≡ true = ap (is_wanted f) (sym k_is) ∙ wanted in
      rw w (ap (λ l. (f.prefix ++ l, trimmed_bytes f.trim_value value) ∷ []) (sym k_is) ∙ ap (λ l. (f.prefix ++ k, l) ∷ []) (sym t_is))

  pub field_dropped : is_wanted f k ≡ false → field_of f (key, value) ≡ []
  field_dropped unwanted =
      let w : is_wanted f (trimmed_bytes f.trim_key key) ≡ false = ap (is_wanted f) (sym k_is) ∙ unwanted in
      rw w refl
