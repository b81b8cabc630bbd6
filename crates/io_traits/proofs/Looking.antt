-- Calls that change nothing, one after another.
use Rattle.std.proofs.Common.{◌≡◌, ◌⊎◌, inl, inr, ⊎_elim, ℕ, ◌≤◌, refl, ◌∙◌, arith, subst}
use Rattle.io_traits.specs.Calls.{ChangesNothing}
use Rattle.io_traits.specs.Moments.{MayLeaveNow, EachMoment}
use Rattle.io_traits.specs.declared.stores.Store.{Ghosts as StoreWords}
use Rattle.std.proofs.lemmas.Bool.{cases_lt}
use Rattle.io_traits.proofs.Moments.{by_call}

-- of two moments one is no later than the other
in_order : (a b : ℕ) → (a ≤ b) ⊎ (b ≤ a)
in_order a b = ⊎_elim (λ less. inl (omega arith)) (λ more. inr (omega arith)) (cases_lt a b)

same_moment : (a b : ℕ) → a ≤ b → b ≤ a → a ≡ b
same_moment a b one other = omega arith

module _ {S : Type 0} (store : StoreWords S) where
  -- what a call that changes nothing leaves, by a store's words
  abbrev pub Nothing : S → S → Type 0
  Nothing old new = ChangesNothing store.tells store.seen store.moment store.may_leave old new

  -- before the first call
  pub nothing_yet : (s : S) → Nothing s s
  nothing_yet s = record {
    reads = λ told. refl;
    images = λ i left. left;
    time = record {
      later = omega arith;
      past = λ t i le. (λ left. left, λ left. left);
      within = λ t i from to left. inl (subst (λ m. store.may_leave s m i) (same_moment t (store.moment s) to from) left);
    };
  }

  -- one call more
  pub nothing_then : (old mid new : S) → Nothing old mid → Nothing mid new → Nothing old new
  nothing_then old mid new one other = record {
    reads = λ told. other.reads told ∙ one.reads told;
    images = λ i left. one.images i (other.images i left);
    time = record {
      later = omega (arith, one.time.later, other.time.later);
      past = λ t i le.
          let late : t ≤ store.moment mid = omega (arith, le, one.time.later) in (
            λ left. (one.time.past t i le).0 ((other.time.past t i late).0 left),
            λ left. (other.time.past t i late).1 ((one.time.past t i le).1 left),
          );
      within = λ t i from to left. ⊎_elim
          (λ early. ⊎_elim (λ before. inl before) (λ now. inl (one.images i now)) (one.time.within t i from early ((other.time.past t i early).0 left)))
          (λ late. ⊎_elim (λ now. inl (one.images i now)) (λ now. inr now) (other.time.within t i late to left))
          (in_order t (store.moment mid));
    };
  }

  -- a stop at any moment of them leaves what it might have left before
  pub nothing_left : (old new : S) → Nothing old new → EachMoment store old new (MayLeaveNow store old)
  nothing_left old new nothing = by_call store old new (MayLeaveNow store old) nothing.time (λ i left. left) nothing.images
