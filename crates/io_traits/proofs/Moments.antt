-- How a run of store calls goes on.
use Rattle.std.proofs.Common.{◌≡◌, ◌⊎◌, inl, inr, ⊎_elim, ◌≤◌, ℕ, IsTrue, arith, subst}
use Rattle.std.proofs.lemmas.Bool.{cases_lt}
use Rattle.io_traits.specs.Images.{Image}
use Rattle.io_traits.specs.Times.{Elapses}
use Rattle.io_traits.specs.Moments.{ImagesTell, MayLeaveNow, EachMoment}
use Rattle.io_traits.specs.declared.stores.Store.{Ghosts as StoreWords}

-- of two numbers one is no more than the other
in_order : (a b : ℕ) → (a ≤ b) ⊎ (b ≤ a)
in_order a b = ⊎_elim (λ less. inl (omega arith)) (λ more. inr (omega arith)) (cases_lt a b)

same_moment : (a b : ℕ) → a ≤ b → b ≤ a → a ≡ b
same_moment a b one other = omega arith

module _ {S : Type 0} (store : StoreWords S) where
  -- before the first call
  pub started : (s : S) (P : Image → Type 0) → ((i : Image) → MayLeaveNow store s i → P i) → EachMoment store s s P
  started s P now = record {
    later = omega arith;
    each = λ t i from to left. now i (subst (λ m. store.may_leave s m i) (same_moment t (store.moment s) to from) left);
    past = λ t i le left. left;
  }

  -- one call more, after which a stop leaves what has P
  pub goes_on : (old mid new : S) (P : Image → Type 0) → EachMoment store old mid P → Elapses (store.moment mid) (store.moment new) (store.may_leave mid) (store.may_leave new)
      → ((i : Image) → MayLeaveNow store new i → P i) → EachMoment store old new P
  goes_on old mid new P so_far time now = record {
    later = omega (arith, so_far.later, time.later);
    each = λ t i from to left. ⊎_elim
        (λ early. so_far.each t i from early ((time.past t i early).0 left))
        (λ late. ⊎_elim (λ begun. so_far.each (store.moment mid) i so_far.later (omega arith) begun) (now i) (time.within t i late to left))
        (in_order t (store.moment mid));
    past = λ t i le left. so_far.past t i le ((time.past t i (omega (arith, so_far.later))).0 left);
  }

  -- one call, before and after which a stop leaves what has P
  pub by_call : (old new : S) (P : Image → Type 0) → Elapses (store.moment old) (store.moment new) (store.may_leave old) (store.may_leave new)
      → ((i : Image) → MayLeaveNow store old i → P i) → ((i : Image) → MayLeaveNow store new i → P i) → EachMoment store old new P
  by_call old new P time before after = goes_on old old new P (started old P before) time after

  -- a fact that follows, where the content is told at each image
  pub weaker : ImagesTell store → (old new : S) (P R : Image → Type 0) → EachMoment store old new P → ((i : Image) → IsTrue store.tells → P i → R i) → EachMoment store old new R
  weaker tell old new P R one follows = record {
    later = one.later;
    each = λ t i from to left. follows i (tell new t i left) (one.each t i from to left);
    past = one.past;
  }

  -- one run after another
  pub one_then_other : ImagesTell store → (old mid new : S) (P Q R : Image → Type 0) → EachMoment store old mid P → EachMoment store mid new Q
      → ((i : Image) → IsTrue store.tells → P i → R i) → ((i : Image) → IsTrue store.tells → Q i → R i) → EachMoment store old new R
  one_then_other tell old mid new P Q R one other first second = record {
    later = omega (arith, one.later, other.later);
    each = λ t i from to left.
        let told = tell new t i left in
        ⊎_elim (λ early. first i told (one.each t i from early (other.past t i early left))) (λ late. second i told (other.each t i late to left)) (in_order t (store.moment mid));
    past = λ t i le left. one.past t i le (other.past t i (omega (arith, one.later)) left);
  }

  -- what holds at each moment holds now
  pub holds_now : (old new : S) (P : Image → Type 0) → EachMoment store old new P → (i : Image) → MayLeaveNow store new i → P i
  holds_now old new P run i left = run.each (store.moment new) i run.later (omega arith) left
