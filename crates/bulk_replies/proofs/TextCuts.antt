-- The last place up to a number at which a character of a text ends.
use Rattle.std.proofs.Common.{◌≡◌, ◌≤◌, ◌<◌, ℕ, zero, suc, List, refl, subst, Bool, true, false, if◌then◌else◌, arith}
use Rattle.std.specs.Prelude.{IsCharBoundary}
use Rattle.std.proofs.lemmas.Bool.Decides.{nat_tests}
use Rattle.bulk_replies.specs.Answers.{ends_at, last_end}

ends_true : (s : List ℕ) (n : ℕ) → ends_at s n ≡ true → IsCharBoundary s n
ends_true s n is = (grind (arith, nat_tests), λ within high. grind (arith, nat_tests))

ends_false : (s : List ℕ) (n : ℕ) → ends_at s n ≡ false → IsCharBoundary s n → ⊥
ends_false s n is here = grind (arith, nat_tests)

by_le : (m r : ℕ) → r ≤ m → (r < m → r ≡ m) → r ≡ m
by_le m r below less = grind (arith, less)

by_less : {x : ℕ} (n r : ℕ) → r ≤ suc n → (r ≤ n → r ≡ x) → (r ≡ suc n → r ≡ x) → r ≡ x
by_less {x} n r below less same = grind (arith, less, same)

last_case : (b : Bool) (s : List ℕ) (n r : ℕ) → ends_at s (suc n) ≡ b → r ≤ suc n → IsCharBoundary s r → ((i : ℕ) → r < i → i ≤ suc n → IsCharBoundary s i → ⊥) → (r ≤ n → r ≡ last_end s n) → r ≡ (if b then suc n else last_end s n)
last_case true s n r is below here nearest rest = by_le (suc n) r below (λ less. absurd (nearest (suc n) less (omega arith) (ends_true s (suc n) is)))
last_case false s n r is below here nearest rest = by_less n r below rest (λ same. absurd (ends_false s (suc n) is (subst (IsCharBoundary s) same here)))

pub last_is : (s : List ℕ) (n r : ℕ) → r ≤ n → IsCharBoundary s r → ((i : ℕ) → r < i → i ≤ n → IsCharBoundary s i → ⊥) → r ≡ last_end s n
unfolding last_end
last_is s zero r below here nearest = omega arith
last_is s (suc n) r below here nearest = last_case (ends_at s (suc n)) s n r refl below here nearest (λ less. last_is s n r less here (λ i above most. nearest i above (omega arith)))
