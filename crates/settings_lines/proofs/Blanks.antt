-- The blanks in front of a text, as `trim_start_matches` cuts them off.
use Rattle.std.proofs.Common.{◌≡◌, ℕ, List, [], ◌∷◌, ◌++◌, drop, refl, sym, ap, ◌∙◌, arith, Option, Some, None, inl, inr, lit<, if◌then◌else◌}
use Rattle.std.specs.Prelude.{IfSome}
use Rattle.std.proofs.lemmas.Str.{encode_ascii}
use Rattle.std.proofs.lemmas.Bool.Decides.{eqb_tells}
use Rattle.std.specs.Str.Pattern.{FindsCharPrefix, HasCharAt, CutsPrefixes, IsTrimStartMatches}
use Rattle.settings_lines.specs.Lines.{skip_blanks}
use Rattle.std.proofs.lemmas.Str.Pattern.{drop_at_char}

front_cut : (m : List ℕ) (n : ℕ) → HasCharAt 32 m 0 n → m ≡ 32 ∷ drop n m
front_cut m n at = drop_at_char 32 m 0 n at (omega arith)

cut : (s : List ℕ) (ns : List ℕ) (r : List ℕ) → CutsPrefixes (FindsCharPrefix 32) s ns r → skip_blanks s ≡ skip_blanks r
cut s [] r is = ap skip_blanks (sym is)
cut s (n ∷ ns) r (m, before, at, is) = cut s ns m before ∙ ap skip_blanks (front_cut m n at) ∙ ap skip_blanks (sym is)

no_more : (r : List ℕ) → ((rest : List ℕ) → r ≡ 32 ∷ rest → ⊥) → skip_blanks r ≡ r
no_more [] none = refl
no_more (b ∷ s) none = elim (eqb_tells b 32) [
  | inl same ↦ absurd (none s (ap (λ x. x ∷ s) same.1))
  | inr other ↦ ap (λ t. if t then skip_blanks s else b ∷ s) other.0
]

ended : (r : List ℕ) (o : Option ℕ) → FindsCharPrefix 32 r o → IfSome o (λ n. n ≡ 0) → skip_blanks r ≡ r
ended r None found none = no_more r (λ rest e. found rest (e ∙ ap (λ x. x ++ rest) (sym (encode_ascii 32 (lit< tt)))))
ended r (Some n) found none = absurd (omega (arith, found.ends))

pub trimmed_start : (s r : List ℕ) → IsTrimStartMatches (FindsCharPrefix 32) s r → r ≡ skip_blanks s
trimmed_start s r ((ns, cuts), (o, found, none)) = sym (cut s ns r cuts ∙ ended r o found none)
