-- When joined conditions hold.
use Rattle.std.proofs.Common.{◌≡◌, ◌↔◌, ◌⊎◌, inl, inr, refl, rules}
use Rattle.event_tree.specs.Events.{Ev}
use Rattle.config_tree.specs.declared.operators.Conjunction.{Conjunction}
use Rattle.config_tree.specs.declared.operators.Conjunction.TheVariants as and
use Rattle.config_tree.specs.declared.operators.Disjunction.{Disjunction}
use Rattle.config_tree.specs.declared.operators.Disjunction.TheVariants as or
use Rattle.config_tree.specs.declared.tree.Condition.{Condition}
use Rattle.config_tree.specs.declared.tree.Condition.TheVariants as c
use Rattle.config_tree.proofs.Folds as folds
use Rattle.condition_eval.specs.Laws.{IsRight}
use Rattle.condition_eval.specs.Truths.{negated, conjoined, disjoined, different, by_conjunction, by_disjunction, truth, truth_step}
use Rattle.condition_eval.specs.declared.truth.Reason.{Reason}
use Rattle.condition_eval.specs.declared.truth.Truth.{Truth}
use Rattle.condition_eval.specs.declared.truth.Truth.TheVariants as t

pub both_yes : (x y : Truth) → (conjoined x y ≡ t.Yes) ↔ ((x ≡ t.Yes) × (y ≡ t.Yes))
both_yes t.Yes y = (λ e. (refl, e), λ h. h.1)
both_yes t.No y = (λ e. absurd (search (e, rules)), λ h. h.0)
both_yes (t.Wrong reason) y = (λ e. absurd (search (e, rules)), λ h. h.0)

pub both_no : (x y : Truth) → (disjoined x y ≡ t.No) ↔ ((x ≡ t.No) × (y ≡ t.No))
both_no t.Yes y = (λ e. absurd (search (e, rules)), λ h. h.0)
both_no t.No y = (λ e. (refl, e), λ h. h.1)
both_no (t.Wrong reason) y = (λ e. absurd (search (e, rules)), λ h. h.0)

pub one_yes : (x y : Truth) → (different x y ≡ t.Yes) ↔ (((x ≡ t.Yes) × (y ≡ t.No)) ⊎ ((x ≡ t.No) × (y ≡ t.Yes)))
one_yes t.Yes t.Yes = (λ e. absurd (search (e, rules)), λ h. from h)
  where
    from : ((t.Yes ≡ t.Yes) × (t.Yes ≡ t.No)) ⊎ ((t.Yes ≡ t.No) × (t.Yes ≡ t.Yes)) → t.No ≡ t.Yes
    from (inl h) = absurd (search (h.1, rules))
    from (inr h) = absurd (search (h.0, rules))
one_yes t.Yes t.No = (λ e. inl (refl, refl), λ h. refl)
one_yes t.Yes (t.Wrong reason) = (λ e. absurd (search (e, rules)), λ h. from h)
  where
    from : ((t.Yes ≡ t.Yes) × (t.Wrong reason ≡ t.No)) ⊎ ((t.Yes ≡ t.No) × (t.Wrong reason ≡ t.Yes)) → t.Wrong reason ≡ t.Yes
    from (inl h) = absurd (search (h.1, rules))
    from (inr h) = h.1
one_yes t.No y = (λ e. inr (refl, e), λ h. from h)
  where
    from : ((t.No ≡ t.Yes) × (y ≡ t.No)) ⊎ ((t.No ≡ t.No) × (y ≡ t.Yes)) → y ≡ t.Yes
    from (inl h) = absurd (search (h.0, rules))
    from (inr h) = h.1
one_yes (t.Wrong reason) y = (λ e. absurd (search (e, rules)), λ h. from h)
  where
    from : ((t.Wrong reason ≡ t.Yes) × (y ≡ t.No)) ⊎ ((t.Wrong reason ≡ t.No) × (y ≡ t.Yes)) → t.Wrong reason ≡ t.Yes
    from (inl h) = h.0
    from (inr h) = absurd (search (h.0, rules))

pub de_morgan : (x y : Truth) → negated (conjoined x y) ≡ disjoined (negated x) (negated y)
de_morgan t.Yes y = refl
de_morgan t.No y = refl
de_morgan (t.Wrong reason) y = refl

pub says_not : (x : Condition) (e : Ev) → truth (c.Not x) e ≡ negated (truth x e)
unfolding truth
says_not x e = folds.fold-Not (truth_step e) x

pub not_not : (x : Truth) → negated (negated x) ≡ x
not_not t.Yes = refl
not_not t.No = refl
not_not (t.Wrong reason) = refl

pub conjunction_meets : (j : Conjunction) (r : Reason) (y : Truth) → by_conjunction j (t.Wrong r) y ≡ t.Wrong r
conjunction_meets and.And r y = refl
conjunction_meets and.Nand r y = refl

pub disjunction_meets : (j : Disjunction) (r : Reason) (y : Truth) → by_disjunction j (t.Wrong r) y ≡ t.Wrong r
disjunction_meets or.Or r y = refl
disjunction_meets or.Xor r y = refl

pub xor_meets : (x : Truth) (r : Reason) → IsRight x → different x (t.Wrong r) ≡ t.Wrong r
xor_meets t.Yes r h = refl
xor_meets t.No r h = refl
xor_meets (t.Wrong reason) r h = absurd h
