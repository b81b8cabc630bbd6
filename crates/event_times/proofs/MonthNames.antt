-- Whether a name stands in front of a text, in any case.
use Rattle.std.proofs.Common.{◌≡◌, ℕ, ◌+◌, true, false, List, ◌∷◌, map, take, drop, length, min, Some, refl, sym, ap, ◌∙◌}
use Rattle.std.specs.Char.{to_ascii_lowercase}
use Rattle.std.specs.Prelude.{bytes_eq}
use Rattle.std.proofs.lemmas.List.{take_min, drop_min}
use Rattle.std.proofs.lemmas.Bool.{false_from_ne_true}
use Rattle.std.proofs.lemmas.Slice.Eq.{bytes_eq-Decides}
use Rattle.event_times.specs.Digits.{Front}
use Rattle.event_times.specs.Reading.{named_in}

abbrev lower : List ℕ → List ℕ
lower s = map to_ascii_lowercase s

module _ (s name front : List ℕ) (cut : front ≡ take (min (length name) (length s)) s) where
  whole : front ≡ take (length name) s
  whole = cut ∙ take_min (length name) s

  pub named_here : (n : ℕ) (names : List (List ℕ)) (rest : List ℕ) → rest ≡ drop (min (length name) (length s)) s → lower front ≡ lower name
      → ◌≡◌ {A = Front ℕ} (Some (n, rest)) (named_in n (name ∷ names) s)
  named_here n names rest left same =
      let test : bytes_eq (lower (take (length name) s)) (lower name) ≡ true =
      ap (λ t. bytes_eq (lower t) (lower name)) (sym whole) ∙ (bytes_eq-Decides (lower front) (lower name)).1 same in
      rw test (ap (λ t. Some (n, t)) (left ∙ drop_min (length name) s))

  pub named_past : (n : ℕ) (names : List (List ℕ)) → ¬ (lower front ≡ lower name) → named_in n (name ∷ names) s ≡ named_in (n + 1) names s
  named_past n names other =
      let test : bytes_eq (lower (take (length name) s)) (lower name) ≡ false =
      ap (λ t. bytes_eq (lower t) (lower name)) (sym whole) ∙ false_from_ne_true (bytes_eq (lower front) (lower name)) (λ is. other ((bytes_eq-Decides (lower front) (lower name)).0 is)) in
      rw test refl
