-- A carriage return at the end of a line.
use Rattle.std.proofs.Common.{◌≡◌, ◌≢◌, ◌-◌, ℕ, List, [], ◌∷◌, ◌++◌, length, take, refl, sym, ap, ◌∙◌, arith, length-append, slice_index}
use Rattle.std.specs.Str.Lines.{strip_carriage_return}
use Rattle.std.proofs.lemmas.Bool.{ne_eqb, eq-eqb, cond-true, cond-false}
use Rattle.std.proofs.lemmas.List.{take_at}
use Rattle.std.proofs.Math.Seq.{get_or-append_seam}

last_place : (bytes : List ℕ) (b : ℕ) → length (bytes ++ b ∷ []) - 1 ≡ length bytes
last_place bytes b = omega (arith, length-append bytes (b ∷ []))

last_is : (bytes : List ℕ) (b : ℕ) → slice_index (bytes ++ b ∷ []) (length (bytes ++ b ∷ []) - 1) ≡ b
last_is bytes b = ap (λ k. slice_index (bytes ++ b ∷ []) k) (last_place bytes b) ∙ get_or-append_seam bytes b [] 0

pub strip-carriage_return : (bytes : List ℕ) → strip_carriage_return (bytes ++ 13 ∷ []) ≡ bytes
strip-carriage_return bytes =
    cond-true _ _ _ (eq-eqb _ 13 (last_is bytes 13)) ∙ ap (λ k. take k (bytes ++ 13 ∷ [])) (last_place bytes 13) ∙ take_at bytes (13 ∷ []) (length bytes) refl

pub strip-other : (bytes : List ℕ) (b : ℕ) → b ≢ 13 → strip_carriage_return (bytes ++ b ∷ []) ≡ bytes ++ b ∷ []
strip-other bytes b other = cond-false _ _ _ (ne_eqb _ 13 (λ is. other (sym (last_is bytes b) ∙ is)))
