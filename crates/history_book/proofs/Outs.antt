-- Members of lists of batches.
use Rattle.std.proofs.Common.{◌≡◌, ◌⊎◌, inl, inr, ⊎_elim, ℕ, ◌==◌, Bool, true, false, List, [], ◌∷◌, Option, Some, if◌then◌else◌, sym, ap, ◌∙◌, subst}
use Rattle.std.proofs.lemmas.Bool.{cases_Bool}
use Rattle.std.proofs.lemmas.Option.{same_Some}
use Rattle.history_book.specs.Lists.{IsIn}
use Rattle.history_book.specs.States.{Out, out_of, change, without}

-- what a step along the batches gives, by whether the first is the one
abbrev pub changed_by : (Out → Out) → ℕ → Out → List Out → Bool → List Out
changed_by f batch o os b = if b then f o ∷ os else o ∷ change f batch os

abbrev pub left_by : ℕ → Out → List Out → Bool → List Out
left_by batch o os b = if b then os else o ∷ without batch os

abbrev pub found_by : ℕ → Out → List Out → Bool → Option Out
found_by batch o os b = if b then Some o else out_of batch os

-- a batch among those of which one was changed: it was there, or it is that one
pub record IsChanged (f : Out → Out) (batch : ℕ) (os : List Out) (o : Out) : Type 0 where
  pub was : Out
  pub found : out_of batch os ≡ Some was
  pub is : o ≡ f was

module _ (batch : ℕ) (o : Out) where
  change_first : (f : Out → Out) (x : Out) (os : List Out) → IsIn o (change f batch (x ∷ os)) → (batch == x.batch) ≡ true → IsIn o (x ∷ os) ⊎ IsChanged f batch (x ∷ os) o
  change_first f x os i here =
      ⊎_elim (λ (e : o ≡ f x). inr (record { was = x; found = ap (found_by batch x os) here; is = e })) (λ (j : IsIn o os). inl (inr j))
      (subst (λ b. IsIn o (changed_by f batch x os b)) here i)

  change_rest : (f : Out → Out) (x : Out) (os : List Out) → (IsIn o (change f batch os) → IsIn o os ⊎ IsChanged f batch os o) → IsIn o (change f batch (x ∷ os))
      → (batch == x.batch) ≡ false → IsIn o (x ∷ os) ⊎ IsChanged f batch (x ∷ os) o
  change_rest f x os rest i other =
      ⊎_elim (λ (e : o ≡ x). inl (inl e))
      (λ (j : IsIn o (change f batch os)).
      ⊎_elim (λ (k : IsIn o os). inl (inr k))
      (λ (c : IsChanged f batch os o). inr (record { was = c.was; found = ap (found_by batch x os) other ∙ c.found; is = c.is })) (rest j))
      (subst (λ b. IsIn o (changed_by f batch x os b)) other i)

  pub change_in : (f : Out → Out) (os : List Out) → IsIn o (change f batch os) → IsIn o os ⊎ IsChanged f batch os o
  change_in f [] i = absurd i
  change_in f (x ∷ os) i = ⊎_elim (change_first f x os i) (change_rest f x os (change_in f os) i) (cases_Bool (batch == x.batch))

  pub without_in : (os : List Out) → IsIn o (without batch os) → IsIn o os
  without_in [] i = i
  without_in (x ∷ os) i =
      ⊎_elim (λ (yes : (batch == x.batch) ≡ true). inr (subst (λ b. IsIn o (left_by batch x os b)) yes i))
      (λ (other : (batch == x.batch) ≡ false).
      ⊎_elim (λ (e : o ≡ x). inl e) (λ (j : IsIn o (without batch os)). inr (without_in os j)) (subst (λ b. IsIn o (left_by batch x os b)) other i))
      (cases_Bool (batch == x.batch))

  pub out_in : (os : List Out) → out_of batch os ≡ Some o → IsIn o os
  out_in [] is = absurd (cc)
  out_in (x ∷ os) is =
      ⊎_elim (λ (yes : (batch == x.batch) ≡ true). inl (same_Some o x (sym is ∙ ap (found_by batch x os) yes)))
      (λ (other : (batch == x.batch) ≡ false). inr (out_in os (sym (ap (found_by batch x os) other) ∙ is)))
      (cases_Bool (batch == x.batch))
