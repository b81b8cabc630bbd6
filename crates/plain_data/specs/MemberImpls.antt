-- Members compared and cloned by their keys and their values.
use Rattle.std.specs.Prelude.{◌≡◌, ℕ, Bool, ◌&&◌, List, nat_eq}
use Rattle.std.specs.Cmp.{IsPartialEquivalence, IsEquivalence, partial_equiv_from_equiv, and_per, and_equiv, on_per, on_equiv}
use Rattle.std.specs.Cmp.Lexicographic.{pointwise, nat_list_eq_equiv}

-- each clone is the value that it was made of
abbrev pub ClonesAreSame : {V : Type 0} → (V → V → Type 0) → Type 0
ClonesAreSame {V = V} clones = (x y : V) → clones x y → y ≡ x

module _ {V : Type 0} where
  -- n has the key of m, and a clone of its value
  abbrev pub member_clone : (V → V → Type 0) → List ℕ × V → List ℕ × V → Type 0
  member_clone clones m n = (n.0 ≡ m.0) × clones m.1 n.1

  -- whether the keys are the same, and the values by the test
  abbrev pub member_eq : (V → V → Bool) → List ℕ × V → List ℕ × V → Bool
  member_eq test m n = pointwise nat_eq m.0 n.0 && test m.1 n.1

  pub member_per : {test : V → V → Bool} → IsPartialEquivalence test → IsPartialEquivalence (member_eq test)
  member_per per = and_per (on_per (λ m. m.0) (partial_equiv_from_equiv nat_list_eq_equiv)) (on_per (λ m. m.1) per)

  pub member_equiv : {test : V → V → Bool} → IsEquivalence test → IsEquivalence (member_eq test)
  member_equiv equiv = and_equiv (on_equiv (λ m. m.0) nat_list_eq_equiv) (on_equiv (λ m. m.1) equiv)
