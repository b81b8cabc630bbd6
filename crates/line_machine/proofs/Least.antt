-- The least number of some that pass a test, and the next one behind another.
use Rattle.std.proofs.Common.{◌≡◌, ◌⊎◌, inl, inr, ⊎_elim, ℕ, ◌&&◌, nat_le, Bool, true, false, List, [], ◌∷◌, Option, Some, None, if◌then◌else◌, refl, sym, ap, ◌∙◌}
use Rattle.std.specs.Prelude.{nat_lt}
use Rattle.std.proofs.lemmas.Option.{same_Some}
use Rattle.history_book.specs.Lists.{IsIn}
use Rattle.line_machine.specs.Summaries.{lesser, least, first_of, next_behind}

pub none_some : {X : Type 0} (x : X) → None ≡ Some x → ⊥
none_some x e = cc

pub true_false : true ≡ false → ⊥
true_false e = cc

pub not_both : (b : Bool) → b ≡ true → b ≡ false → ⊥
not_both b t f = true_false (sym t ∙ f)

pub both_of : (a b : Bool) → (a && b) ≡ true → (a ≡ true) × (b ≡ true)
both_of true b e = (refl, e)
both_of false b e = absurd (true_false (sym e))

pub both_are : (a b : Bool) → a ≡ true → b ≡ true → (a && b) ≡ true
both_are true b e f = f
both_are false b e f = absurd (true_false (sym e))

pub first_not : (a b : Bool) → a ≡ false → (a && b) ≡ false
first_not true b e = absurd (true_false e)
first_not false b e = refl

pub second_not : (a b : Bool) → b ≡ false → (a && b) ≡ false
second_not true b e = e
second_not false b e = refl

-- ---- the least

lesser_is : (k : ℕ) (o : Option ℕ) (n : ℕ) → lesser k o ≡ Some n → (n ≡ k) ⊎ (o ≡ Some n)
lesser_is k None n is = inl (sym (same_Some k n is))
lesser_is k (Some m) n is = by_test (nat_le k m) is
  where
    by_test : (b : Bool) → (if b then Some k else Some m) ≡ Some n → (n ≡ k) ⊎ (Some m ≡ Some n)
    by_test true e = inl (sym (same_Some k n e))
    by_test false e = inr e

lesser_some : (k : ℕ) (o : Option ℕ) → lesser k o ≡ None → ⊥
lesser_some k None e = none_some k (sym e)
lesser_some k (Some m) e = by_test (nat_le k m) e
  where
    by_test : (b : Bool) → (if b then Some k else Some m) ≡ None → ⊥
    by_test true e = none_some k (sym e)
    by_test false e = none_some m (sym e)

module _ (p : ℕ → Bool) where
  pub least_found : (ns : List ℕ) (n : ℕ) → least p ns ≡ Some n → IsIn n ns × (p n ≡ true)
  least_found [] n is = absurd (none_some n is)
  least_found (k ∷ ns) n is = by_test (p k) refl (least_found ns n) is
    where
      by_test : (b : Bool) → p k ≡ b → (least p ns ≡ Some n → IsIn n ns × (p n ≡ true)) → (if b then lesser k (least p ns) else least p ns) ≡ Some n → IsIn n (k ∷ ns) × (p n ≡ true)
      by_test true test rest e = ⊎_elim (λ (same : n ≡ k). (inl same, ap p same ∙ test)) (λ (later : least p ns ≡ Some n). let more = rest later in (inr more.0, more.1)) (lesser_is k (least p ns) n e)
      by_test false test rest e = let more = rest e in (inr more.0, more.1)

  pub least_none : (ns : List ℕ) → least p ns ≡ None → (n : ℕ) → IsIn n ns → p n ≡ false
  least_none [] is n has = absurd has
  least_none (k ∷ ns) is n has = by_test (p k) refl (λ e. least_none ns e n) is has
    where
      by_test : (b : Bool) → p k ≡ b → (least p ns ≡ None → IsIn n ns → p n ≡ false) → (if b then lesser k (least p ns) else least p ns) ≡ None → IsIn n (k ∷ ns) → p n ≡ false
      by_test true test rest e i = absurd (lesser_some k (least p ns) e)
      by_test false test rest e (inl same) = ap p same ∙ test
      by_test false test rest e (inr i) = rest e i

  pub none_least : (ns : List ℕ) → ((n : ℕ) → IsIn n ns → p n ≡ false) → least p ns ≡ None
  none_least [] none = refl
  none_least (k ∷ ns) none = ap (λ (b : Bool). if b then lesser k (least p ns) else least p ns) (none k (inl refl)) ∙ none_least ns (λ n i. none n (inr i))

-- ---- the next one

first_is : (o other : Option ℕ) (n : ℕ) → first_of o other ≡ Some n → (o ≡ Some n) ⊎ (other ≡ Some n)
first_is None other n e = inr e
first_is (Some m) other n e = inl e

module _ (p : ℕ → Bool) (ns : List ℕ) where
  pub next_found : (g : Option ℕ) (n : ℕ) → next_behind g p ns ≡ Some n → IsIn n ns × (p n ≡ true)
  next_found None n is = least_found p ns n is
  next_found (Some last) n is = ⊎_elim
      (λ (e : least (λ k. nat_lt last k && p k) ns ≡ Some n). let found = least_found (λ k. nat_lt last k && p k) ns n e in (found.0, (both_of (nat_lt last n) (p n) found.1).1))
      (λ (e : least p ns ≡ Some n). least_found p ns n e) (first_is (least (λ k. nat_lt last k && p k) ns) (least p ns) n is)

  pub next_none : (g : Option ℕ) → next_behind g p ns ≡ None → (n : ℕ) → IsIn n ns → p n ≡ false
  next_none None is = least_none p ns is
  next_none (Some last) is = least_none p ns (second (least (λ k. nat_lt last k && p k) ns) is)
    where
      second : (o : Option ℕ) → first_of o (least p ns) ≡ None → least p ns ≡ None
      second None e = e
      second (Some m) e = absurd (none_some m (sym e))

  pub none_next : (g : Option ℕ) → ((n : ℕ) → IsIn n ns → p n ≡ false) → next_behind g p ns ≡ None
  none_next None none = none_least p ns none
  none_next (Some last) none =
      ap (λ o. first_of o (least p ns)) (none_least (λ k. nat_lt last k && p k) ns (λ n i. second_not (nat_lt last n) (p n) (none n i))) ∙ none_least p ns none
