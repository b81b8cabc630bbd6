-- A row of places, each with some jobs and a count of looks, of which one changes.
use Rattle.std.proofs.Common.{◌≡◌, ◌≤◌, ◌<◌, ◌+◌, ℕ, zero, suc, List, [], ◌∷◌, ◌++◌, length, take, set, get_or, flat_map, refl, sym, ap, ◌∙◌, arith, append_assoc, length-append}
use Rattle.std.proofs.lemmas.List.{append-nil, take_more_set}
use Rattle.std.proofs.lemmas.Grind.{flat_map-append}
use Rattle.batch_shop.specs.Jobs.{IsAdded}

module _ {X A : Type 0} (f : X → List A) where
  -- a place that had nothing has a job now
  pub filled : (xs : List X) (at : ℕ) (d y : X) (job : A) → at < length xs → f (get_or xs at d) ≡ [] → f y ≡ job ∷ [] → IsAdded job (flat_map f xs) (flat_map f (set xs at y))
  filled [] at d y job h e g = absurd (omega (arith, h))
  filled (x ∷ xs) zero d y job h e g = record {
    before = [];
    behind = flat_map f xs;
    was = ap (λ l. l ++ flat_map f xs) e;
    is = ap (λ l. l ++ flat_map f xs) g;
  }
  filled (x ∷ xs) (suc at) d y job h e g =
      let more = filled xs at d y job (omega (arith, h)) e g in
      record {
        before = f x ++ more.before;
        behind = more.behind;
        was = ap (λ l. f x ++ l) more.was ∙ sym (append_assoc (f x) more.before more.behind);
        is = ap (λ l. f x ++ l) more.is ∙ sym (append_assoc (f x) more.before (job ∷ more.behind));
      }

  -- what stays in each place stays in all
  pub unchanged : (xs : List X) (at : ℕ) (d y : X) → f y ≡ f (get_or xs at d) → at < length xs → flat_map f (set xs at y) ≡ flat_map f xs
  unchanged [] at d y e h = refl
  unchanged (x ∷ xs) zero d y e h = ap (λ l. l ++ flat_map f xs) e
  unchanged (x ∷ xs) (suc at) d y e h = ap (λ l. f x ++ l) (unchanged xs at d y e (omega (arith, h)))

  -- at most one in each place
  pub at_most : ((x : X) → length (f x) ≤ 1) → (xs : List X) → length (flat_map f xs) ≤ length xs
  at_most one [] = omega arith
  at_most one (x ∷ xs) = omega (arith, one x, at_most one xs, length-append (f x) (flat_map f xs))

  -- and fewer where one place has none
  pub fewer : ((x : X) → length (f x) ≤ 1) → (xs : List X) (at : ℕ) (d : X) → at < length xs → f (get_or xs at d) ≡ [] → length (flat_map f xs) < length xs
  fewer one [] at d h e = absurd (omega (arith, h))
  fewer one (x ∷ xs) zero d h e = omega (arith, ap length e, at_most one xs, length-append (f x) (flat_map f xs))
  fewer one (x ∷ xs) (suc at) d h e = omega (arith, one x, fewer one xs at d (omega (arith, h)) e, length-append (f x) (flat_map f xs))

  -- a place that had a job has nothing now
  pub emptied : (xs : List X) (at : ℕ) (d y : X) (job : A) → at < length xs → f (get_or xs at d) ≡ job ∷ [] → f y ≡ [] → IsAdded job (flat_map f (set xs at y)) (flat_map f xs)
  emptied [] at d y job h e g = absurd (omega (arith, h))
  emptied (x ∷ xs) zero d y job h e g = record {
    before = [];
    behind = flat_map f xs;
    was = ap (λ l. l ++ flat_map f xs) g;
    is = ap (λ l. l ++ flat_map f xs) e;
  }
  emptied (x ∷ xs) (suc at) d y job h e g =
      let more = emptied xs at d y job (omega (arith, h)) e g in
      record {
        before = f x ++ more.before;
        behind = more.behind;
        was = ap (λ l. f x ++ l) more.was ∙ sym (append_assoc (f x) more.before more.behind);
        is = ap (λ l. f x ++ l) more.is ∙ sym (append_assoc (f x) more.before (job ∷ more.behind));
      }

  -- a front with nothing, and a place behind it that has nothing now
  pub front_set : (xs : List X) (at : ℕ) (y : X) → at < length xs → f y ≡ [] → flat_map f (take at xs) ≡ [] → flat_map f (take (at + 1) (set xs at y)) ≡ []
  front_set xs at y h e none = ap (flat_map f) (take_more_set xs at y h) ∙ flat_map-append f (take at xs) (y ∷ []) ∙ ap (λ l. l ++ flat_map f (y ∷ [])) none ∙ append-nil (f y) ∙ e
