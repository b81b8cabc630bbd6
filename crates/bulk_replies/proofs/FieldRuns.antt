-- The values of a name, field by field.
use Rattle.std.proofs.Common.{◌≡◌, ℕ, ◌+◌, ◌<◌, List, [], ◌∷◌, ◌++◌, ◌⊎◌, inl, inr, length, take, get_or, map, refl, sym, ap, subst, ◌∙◌, Bool, true, false, if◌then◌else◌, Some, None, arith}
use Rattle.std.specs.Prelude.{IsUtf8, ◌==◌, ◌&&◌, not, option_and_then}
use Rattle.std.specs.List.{list_all}
use Rattle.std.specs.Char.{is_ascii_digit}
use Rattle.std.specs.Str.Parse.{digits_value}
use Rattle.std.proofs.lemmas.Bool.{false≢true}
use Rattle.std.proofs.lemmas.Bool.Decides.{nat_tests}
use Rattle.std.proofs.lemmas.List.{take_more, map-append, append-nil}
use Rattle.std.proofs.lemmas.List.Elements.{All-weaker}
use Rattle.std.proofs.lemmas.List.Sums.{AllPass-from_list_all}
use Rattle.std.proofs.lemmas.Str.{IsUtf8-from_ascii}
use Rattle.std.proofs.lemmas.Str.Ascii.{IsAscii-from_all}
use Rattle.settings_lines.specs.Numbers.{number_in, within}
use Rattle.httparse.specs.Spans.{header_bytes, span_bytes}
use Rattle.httparse.specs.declared.spans.HeaderSpan.{HeaderSpan}
use Rattle.bulk_replies.specs.Fields.{Named, is_same, values_of}
use Rattle.bulk_replies.specs.Found.{Finds}
use Rattle.bulk_replies.specs.declared.fields.FieldMatch.{FieldMatch}
use Rattle.bulk_replies.specs.declared.fields.FieldMatch.TheVariants as f
use Rattle.httparse.specs.declared.spans.Span.{Span}

one_case : (b : Bool) (v : List ℕ) (vs ws rest : List (List ℕ)) → rest ≡ vs ++ ws → (if b then v ∷ rest else rest) ≡ (if b then v ∷ vs else vs) ++ ws
one_case true v vs ws rest is = ap (λ r. v ∷ r) is
one_case false v vs ws rest is = is

pub values-append : (name : List ℕ) (fs gs : Named) → values_of name (fs ++ gs) ≡ values_of name fs ++ values_of name gs
values-append name [] gs = refl
values-append name (f ∷ fs) gs = one_case (is_same f.0 name) f.1 (values_of name fs) (values_of name gs) (values_of name (fs ++ gs)) (values-append name fs gs)

-- what the values of the first fields are, with one field more
module _ (reply name : List ℕ) (hs : List HeaderSpan) (i : ℕ) (d : HeaderSpan) (below : i < length hs) where
  abbrev so_far : List (List ℕ)
  so_far = values_of name (map (header_bytes reply) (take i hs))

  abbrev here : HeaderSpan
  here = get_or hs i d

  more : values_of name (map (header_bytes reply) (take (i + 1) hs)) ≡ so_far ++ values_of name (header_bytes reply here ∷ [])
  more = ap (λ xs. values_of name (map (header_bytes reply) xs)) (take_more hs i d below) ∙ ap (values_of name) (map-append (header_bytes reply) (take i hs) (here ∷ [])) ∙ values-append name (map (header_bytes reply) (take i hs)) (header_bytes reply here ∷ [])

  pub one_named : (found : FieldMatch) → true ≡ is_same (span_bytes reply here.name) name → Finds reply (so_far ++ span_bytes reply here.value ∷ []) found → Finds reply (values_of name (map (header_bytes reply) (take (i + 1) hs))) found
  one_named found named finds = subst (λ vs. Finds reply vs found) (sym (more ∙ ap (λ b. so_far ++ (if b then span_bytes reply here.value ∷ [] else [])) (sym named))) finds

  pub none_named : (found : FieldMatch) → false ≡ is_same (span_bytes reply here.name) name → Finds reply so_far found → Finds reply (values_of name (map (header_bytes reply) (take (i + 1) hs))) found
  none_named found named finds = subst (λ vs. Finds reply vs found) (sym (more ∙ ap (λ b. so_far ++ (if b then span_bytes reply here.value ∷ [] else [])) (sym named) ∙ append-nil so_far)) finds

-- a value more than one, or than several
pub several : (reply : List ℕ) (values : List (List ℕ)) (v : List ℕ) (found : FieldMatch) → (((s : Span) × (found ≡ f.One s)) ⊎ (found ≡ f.Several)) → Finds reply values found → Finds reply (values ++ v ∷ []) f.Several
several reply values v found (inl (s, is)) finds = let one = subst (Finds reply values) is finds in (_, v, [], ap (λ vs. vs ++ v ∷ []) one.0)
several reply values v found (inr is) finds = let more = subst (Finds reply values) is finds in (more.0, more.1, more.2 ++ v ∷ [], ap (λ vs. vs ++ v ∷ []) more.3)

digit_low : (b : ℕ) → is_ascii_digit b ≡ true → b < 128
digit_low b is = grind (arith, nat_tests)

-- digits are text
pub digits_text : (s : List ℕ) → list_all is_ascii_digit s ≡ true → IsUtf8 s
digits_text s digits = IsUtf8-from_ascii s (IsAscii-from_all s (All-weaker (λ b. is_ascii_digit b ≡ true) (λ b. b < 128) digit_low s (AllPass-from_list_all is_ascii_digit s digits)))

not_true : (b : Bool) → (b ≡ true → ⊥) → b ≡ false
not_true true is = absurd (is refl)
not_true false is = refl

none_case : (b e : Bool) (n low high : ℕ) → b ≡ false → None ≡ option_and_then (within low high) (if not e && b then Some n else None)
none_case true e n low high is = absurd (false≢true (sym is))
none_case false true n low high is = refl
none_case false false n low high is = refl

pub no_number : (s : List ℕ) (low high : ℕ) → (IsUtf8 s → ⊥) → None ≡ number_in low high s
no_number s low high none = none_case (list_all is_ascii_digit s) (length s == 0) (digits_value 10 s) low high (not_true (list_all is_ascii_digit s) (λ digits. none (digits_text s digits)))
