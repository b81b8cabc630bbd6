-- One step along a list whose items' texts are joined.
use Rattle.std.proofs.Common.{◌≡◌, ℕ, suc, ◌+◌, ◌<◌, List, ◌++◌, length, drop, get_or, sym, ap, ◌∙◌, append_assoc, drop-cons, add-one}
use Rattle.std.specs.Prelude.{flat_map}

pub flat_step : {A : Type 0} (f : A → List ℕ) (xs : List A) (i : ℕ) (x : A) (old new : List ℕ) → i < length xs → x ≡ get_or xs i x → new ≡ old ++ f x → new ++ flat_map f (drop (i + 1) xs) ≡ old ++ flat_map f (drop i xs)
flat_step f xs i x old new lt is h =
    ap (λ l. l ++ flat_map f (drop (i + 1) xs)) h ∙ append_assoc old (f x) (flat_map f (drop (i + 1) xs))
    ∙ ap (λ k. old ++ (f x ++ flat_map f (drop k xs))) (add-one i)
    ∙ ap (λ y. old ++ (f y ++ flat_map f (drop (suc i) xs))) is
    ∙ ap (λ l. old ++ flat_map f l) (sym (drop-cons xs i x lt))
