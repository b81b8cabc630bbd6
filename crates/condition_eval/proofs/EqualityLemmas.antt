-- The test whether two values are equal.
use Rattle.std.proofs.Common.{◌≡◌, ◌↔◌, Bool, true, false, refl, sym, true≢false}
use Rattle.event_tree.specs.declared.value.Value.{Value}
use Rattle.condition_eval.specs.Equality.{are_equal, value_discrete, is_yes}

yes_where : (x y : Value) (d : Dec (x ≡ y)) → x ≡ y → is_yes d ≡ true
yes_where x y (yes p) e = refl
yes_where x y (no n) e = absurd (n e)

where_yes : (x y : Value) (d : Dec (x ≡ y)) → is_yes d ≡ true → x ≡ y
where_yes x y (yes p) e = p
where_yes x y (no n) e = absurd (true≢false (sym e))

no_where : (x y : Value) (d : Dec (x ≡ y)) → (x ≡ y → ⊥) → is_yes d ≡ false
no_where x y (yes p) e = absurd (e p)
no_where x y (no n) e = refl

pub equal_where : (x y : Value) → x ≡ y → are_equal x y ≡ true
unfolding are_equal
equal_where x y e = yes_where x y (value_discrete x y) e

pub where_equal : (x y : Value) → are_equal x y ≡ true → x ≡ y
unfolding are_equal
where_equal x y e = where_yes x y (value_discrete x y) e

pub unequal_where : (x y : Value) → (x ≡ y → ⊥) → are_equal x y ≡ false
unfolding are_equal
unequal_where x y e = no_where x y (value_discrete x y) e

-- a test that is true where the two values are equal is this one
pub is_the_test : (b : Bool) (x y : Value) → ((b ≡ true) ↔ (x ≡ y)) → b ≡ are_equal x y
is_the_test true x y is = sym (equal_where x y (is.0 refl))
is_the_test false x y is = sym (unequal_where x y (λ e. true≢false (sym (is.1 e))))
