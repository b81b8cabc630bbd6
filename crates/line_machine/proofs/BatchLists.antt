-- Lists of batches: found by their numbers, changed, and without one.
use Rattle.std.proofs.Common.{◌≡◌, ◌⊎◌, inl, inr, ⊎_elim, ℕ, ◌==◌, Bool, true, false, List, [], ◌∷◌, ◌++◌, map, Some, None, if◌then◌else◌, refl, sym, ap, ◌∙◌, subst}
use Rattle.std.proofs.lemmas.Bool.{eqb-true, eq-eqb}
use Rattle.std.proofs.lemmas.Option.{same_Some}
use Rattle.history_book.specs.Lists.{IsIn}
use Rattle.history_book.proofs.Lists.{in_either}
use Rattle.line_machine.specs.Doing.{AllDiffer}
use Rattle.line_machine.specs.Views.{Batch, batch_of, change_batch, without_batch}
use Rattle.line_machine.proofs.Boxes.{without_has}

pub differs : true ≡ false → ⊥
differs e = cc

pub none_some : {X : Type 0} (x : X) → None ≡ Some x → ⊥
none_some x e = cc

-- ---- numbers that differ

pub differ_end : (ns : List ℕ) (n : ℕ) → AllDiffer ns → (IsIn n ns → ⊥) → AllDiffer (ns ++ n ∷ [])
differ_end [] n differ none = (λ has. has, tt)
differ_end (k ∷ ns) n differ none = (
  λ has. ⊎_elim (λ (j : IsIn k ns). differ.0 j) (λ (j : IsIn k (n ∷ [])). ⊎_elim (λ (e : k ≡ n). none (inl (sym e))) (λ (never : ⊥). absurd never) j) (in_either k ns (n ∷ []) has),
  differ_end ns n differ.1 (λ j. none (inr j)),
)

abbrev pub numbers_of : List Batch → List ℕ
numbers_of bs = map (λ (b : Batch). b.number) bs

pub number_in : (b : Batch) (bs : List Batch) → IsIn b bs → IsIn b.number (numbers_of bs)
number_in b [] has = absurd has
number_in b (x ∷ bs) (inl e) = inl (ap (λ (y : Batch). y.number) e)
number_in b (x ∷ bs) (inr i) = inr (number_in b bs i)

pub of_number : (n : ℕ) (bs : List Batch) → IsIn n (numbers_of bs) → (b : Batch) × IsIn b bs × (n ≡ b.number)
of_number n [] has = absurd has
of_number n (x ∷ bs) (inl e) = (x, inl refl, e)
of_number n (x ∷ bs) (inr i) = let rest = of_number n bs i in (rest.0, inr rest.1, rest.2)

-- a batch that is found by its number
pub found_in : (n : ℕ) (b : Batch) (bs : List Batch) → batch_of n bs ≡ Some b → IsIn b bs × (b.number ≡ n)
found_in n b [] has = absurd (cc)
found_in n b (x ∷ bs) has = by_test (found_in n b bs) (n == x.number) refl has
  where
    by_test : (batch_of n bs ≡ Some b → IsIn b bs × (b.number ≡ n)) → (t : Bool) → (n == x.number) ≡ t → (if t then Some x else batch_of n bs) ≡ Some b → IsIn b (x ∷ bs) × (b.number ≡ n)
    by_test rest true test is =
        let same = same_Some x b is in
        (inl (sym same), sym (ap (λ (y : Batch). y.number) same) ∙ sym (eqb-true n x.number test))
    by_test rest false test is = let more = rest is in (inr more.0, more.1)

-- one that is there is found by its number, where they differ
pub batch_found : (b : Batch) (bs : List Batch) → AllDiffer (numbers_of bs) → IsIn b bs → batch_of b.number bs ≡ Some b
batch_found b [] differ has = absurd has
batch_found b (x ∷ bs) differ (inl e) = ap (λ (t : Bool). if t then Some x else batch_of b.number bs) (eq-eqb b.number x.number (ap (λ (y : Batch). y.number) e)) ∙ ap Some (sym e)
batch_found b (x ∷ bs) differ (inr i) = by_test (b.number == x.number) refl (batch_found b bs differ.1 i)
  where
    by_test : (t : Bool) → (b.number == x.number) ≡ t → batch_of b.number bs ≡ Some b → (if t then Some x else batch_of b.number bs) ≡ Some b
    by_test true test rest = absurd (differ.0 (subst (λ k. IsIn k (numbers_of bs)) (eqb-true b.number x.number test) (number_in b bs i)))
    by_test false test rest = rest

module _ (f : Batch → Batch) (keeps : (b : Batch) → (f b).number ≡ b.number) (n : ℕ) where
  pub numbers_kept : (bs : List Batch) → numbers_of (change_batch f n bs) ≡ numbers_of bs
  numbers_kept [] = refl
  numbers_kept (b ∷ bs) = by_test (n == b.number) (numbers_kept bs)
    where
      by_test : (t : Bool) → numbers_of (change_batch f n bs) ≡ numbers_of bs → numbers_of (if t then f b ∷ bs else b ∷ change_batch f n bs) ≡ b.number ∷ numbers_of bs
      by_test true rest = ap (λ k. k ∷ numbers_of bs) (keeps b)
      by_test false rest = ap (λ l. b.number ∷ l) rest

  -- each is as it was, with another number, or is the one that was changed
  pub batch_changed : (bs : List Batch) → AllDiffer (numbers_of bs) → (u : Batch) → IsIn u (change_batch f n bs)
      → (IsIn u bs × (u.number ≡ n → ⊥)) ⊎ ((b : Batch) × (batch_of n bs ≡ Some b) × IsIn b bs × (u ≡ f b))
  batch_changed [] differ u has = absurd has
  batch_changed (x ∷ bs) differ u has = by_test (batch_changed bs differ.1 u) (n == x.number) refl has
    where
      by_test : (IsIn u (change_batch f n bs) → (IsIn u bs × (u.number ≡ n → ⊥)) ⊎ ((b : Batch) × (batch_of n bs ≡ Some b) × IsIn b bs × (u ≡ f b))) → (t : Bool) → (n == x.number) ≡ t
          → IsIn u (if t then f x ∷ bs else x ∷ change_batch f n bs) → (IsIn u (x ∷ bs) × (u.number ≡ n → ⊥)) ⊎ ((b : Batch) × ((if t then Some x else batch_of n bs) ≡ Some b) × IsIn b (x ∷ bs) × (u ≡ f b))
      by_test rest true test (inl e) = inr (x, refl, inl refl, e)
      by_test rest true test (inr i) = inl (inr i, λ same. differ.0 (subst (λ k. IsIn k (numbers_of bs)) (same ∙ eqb-true n x.number test) (number_in u bs i)))
      by_test rest false test (inl e) = inl (inl e, λ same. differs (sym (eq-eqb n x.number (sym same ∙ ap (λ (y : Batch). y.number) e)) ∙ test))
      by_test rest false test (inr i) = ⊎_elim (λ (o : IsIn u bs × (u.number ≡ n → ⊥)). inl (inr o.0, o.1))
          (λ (c : (b : Batch) × (batch_of n bs ≡ Some b) × IsIn b bs × (u ≡ f b)). inr (c.0, c.1, inr c.2, c.3)) (rest i)

  -- one of another number is there still, and that one changed
  pub batch_behind : (bs : List Batch) (b : Batch) → IsIn b bs → (b.number ≡ n → ⊥) → IsIn b (change_batch f n bs)
  batch_behind [] b has other = absurd has
  batch_behind (x ∷ bs) b has other = by_test (n == x.number) refl (batch_behind bs b) has
    where
      by_test : (t : Bool) → (n == x.number) ≡ t → (IsIn b bs → (b.number ≡ n → ⊥) → IsIn b (change_batch f n bs)) → IsIn b (x ∷ bs) → IsIn b (if t then f x ∷ bs else x ∷ change_batch f n bs)
      by_test true test rest (inl e) = absurd (other (ap (λ (y : Batch). y.number) e ∙ sym (eqb-true n x.number test)))
      by_test true test rest (inr i) = inr i
      by_test false test rest (inl e) = inl e
      by_test false test rest (inr i) = inr (rest i other)

  pub changed_there : (bs : List Batch) (b : Batch) → batch_of n bs ≡ Some b → IsIn (f b) (change_batch f n bs)
  changed_there [] b has = absurd (none_some b has)
  changed_there (x ∷ bs) b has = by_test (n == x.number) (changed_there bs b) has
    where
      by_test : (t : Bool) → (batch_of n bs ≡ Some b → IsIn (f b) (change_batch f n bs)) → (if t then Some x else batch_of n bs) ≡ Some b → IsIn (f b) (if t then f x ∷ bs else x ∷ change_batch f n bs)
      by_test true rest is = inl (ap f (sym (same_Some x b is)))
      by_test false rest is = inr (rest is)

pub without_differ : (n : ℕ) (bs : List Batch) → AllDiffer (numbers_of bs) → AllDiffer (numbers_of (without_batch n bs))
without_differ n [] differ = tt
without_differ n (b ∷ bs) differ = by_test (n == b.number) (without_differ n bs differ.1)
  where
    by_test : (t : Bool) → AllDiffer (numbers_of (without_batch n bs)) → AllDiffer (numbers_of (if t then bs else b ∷ without_batch n bs))
    by_test true rest = differ.1
    by_test false rest = (λ has. let x = of_number b.number (without_batch n bs) has in differ.0 (subst (λ k. IsIn k (numbers_of bs)) (sym x.2) (number_in x.0 bs (without_has n bs x.0 x.1))), rest)

-- one that is there still, behind another one that leaves
pub without_other : (n : ℕ) (bs : List Batch) (b : Batch) → IsIn b bs → (b.number ≡ n → ⊥) → IsIn b (without_batch n bs)
without_other n [] b has other = absurd has
without_other n (x ∷ bs) b has other = by_test (n == x.number) refl (without_other n bs b) has
  where
    by_test : (t : Bool) → (n == x.number) ≡ t → (IsIn b bs → (b.number ≡ n → ⊥) → IsIn b (without_batch n bs)) → IsIn b (x ∷ bs) → IsIn b (if t then bs else x ∷ without_batch n bs)
    by_test true test rest (inl e) = absurd (other (ap (λ (y : Batch). y.number) e ∙ sym (eqb-true n x.number test)))
    by_test true test rest (inr i) = i
    by_test false test rest (inl e) = inl e
    by_test false test rest (inr i) = inr (rest i other)

-- two of the same number are one
pub same_batch : (bs : List Batch) → AllDiffer (numbers_of bs) → (b c : Batch) → IsIn b bs → IsIn c bs → b.number ≡ c.number → b ≡ c
same_batch [] differ b c i j same = absurd i
same_batch (x ∷ bs) differ b c (inl e) (inl f) same = e ∙ sym f
same_batch (x ∷ bs) differ b c (inl e) (inr j) same = absurd (differ.0 (subst (λ k. IsIn k (numbers_of bs)) (sym same ∙ ap (λ (y : Batch). y.number) e) (number_in c bs j)))
same_batch (x ∷ bs) differ b c (inr i) (inl f) same = absurd (differ.0 (subst (λ k. IsIn k (numbers_of bs)) (same ∙ ap (λ (y : Batch). y.number) f) (number_in b bs i)))
same_batch (x ∷ bs) differ b c (inr i) (inr j) same = same_batch bs differ.1 b c i j same
