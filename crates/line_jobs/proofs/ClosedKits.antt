-- Kits that are closed one after another.
use Rattle.std.proofs.Common.{◌≡◌, ◌<◌, ◌≤◌, ◌+◌, ℕ, zero, suc, List, [], ◌∷◌, length, map, get_or, slice_set, Option, refl, ap, ◌∙◌, arith, add-one}
use Rattle.plugin_graph.specs.Graphs.{boxes_in}
use Rattle.plugin_graph.specs.declared.kit.Kit.{Kit}
use Rattle.line_jobs.specs.Closings.{each_once_more, told}
use Rattle.line_jobs.specs.Closings.{all_once_more, told_in}

-- counts of kits, each once more but those of the first few
abbrev pub more_behind : ℕ → List (List (Option ℕ)) → List (List (Option ℕ))
more_behind zero counts = all_once_more counts
more_behind (suc n) [] = []
more_behind (suc n) (c ∷ counts) = c ∷ more_behind n counts

-- one that changes leaves what is told of all as it was, if it leaves what is told of it
pub same_told : {X A : Type 0} (tell : X → A) (xs : List X) (i : ℕ) (x d : X) → i < length xs → tell x ≡ tell (get_or xs i d) → map tell (slice_set xs i x) ≡ map tell xs
same_told tell [] i x d less is = absurd (omega (arith, less))
same_told tell (first ∷ xs) zero x d less is = ap (λ c. c ∷ map tell xs) is
same_told tell (first ∷ xs) (suc i) x d less is = ap (λ l. tell first ∷ l) (same_told tell xs i x d (omega (arith, less)) is)

module _ {X : Type 0} (closes : X → ℕ) where
  at_place : (kits : List (Kit X)) (i : ℕ) (kit d : Kit X) → i < length kits → told closes (boxes_in kit) ≡ each_once_more (told closes (boxes_in (get_or kits i d)))
      → more_behind (suc i) (told_in closes (slice_set kits i kit)) ≡ more_behind i (told_in closes kits)
  at_place [] i kit d less is = absurd (omega (arith, less))
  at_place (first ∷ kits) zero kit d less is = ap (λ c. c ∷ all_once_more (told_in closes kits)) is
  at_place (first ∷ kits) (suc i) kit d less is = ap (λ l. told closes (boxes_in first) ∷ l) (at_place kits i kit d (omega (arith, less)) is)

  -- one more kit is closed
  pub one_closed : (kits : List (Kit X)) (i : ℕ) (kit d : Kit X) → i < length kits → told closes (boxes_in kit) ≡ each_once_more (told closes (boxes_in (get_or kits i d)))
      → more_behind (i + 1) (told_in closes (slice_set kits i kit)) ≡ more_behind i (told_in closes kits)
  one_closed kits i kit d less is = ap (λ n. more_behind n (told_in closes (slice_set kits i kit))) (add-one i) ∙ at_place kits i kit d less is

  -- all are
  pub all_closed : (kits : List (Kit X)) (n : ℕ) → length kits ≤ n → more_behind n (told_in closes kits) ≡ told_in closes kits
  all_closed [] zero past = refl
  all_closed [] (suc n) past = refl
  all_closed (first ∷ kits) zero past = absurd (omega (arith, past))
  all_closed (first ∷ kits) (suc n) past = ap (λ l. told closes (boxes_in first) ∷ l) (all_closed kits n (omega (arith, past)))
