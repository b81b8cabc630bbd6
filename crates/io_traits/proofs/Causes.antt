-- How counts and their causes compose.
use Rattle.std.proofs.Common.{◌≡◌, ◌≤◌, ◌⊎◌, inl, inr, ℕ, ◌∙◌, arith}
use Rattle.io_traits.specs.Counts.{Rose, HasCause}

-- over an earlier beginning
pub rose_from : (a b c : ℕ) → a ≤ b → Rose b c → Rose a c
rose_from a b c le (inl more) = inl (omega arith)
rose_from a b c le (inr last) = inr last

-- up to a later end
pub rose_to : (a b c : ℕ) → b ≤ c → Rose a b → Rose a c
rose_to a b c le (inl more) = inl (omega arith)
rose_to a b c le (inr last) = inr (omega arith)

-- a fault by another name
pub cause_of : {P Q : Type 0} {a b : ℕ} → (Q → P) → (P → Q) → HasCause a b P → HasCause a b Q
cause_of as_fault named cause = record { later = cause.later; rose = λ q. cause.rose (as_fault q); same = λ none. cause.same (λ p. none (named p)) }

-- no fault before, and none after
pub cause_from : {P : Type 0} {a b c : ℕ} → b ≡ a → HasCause b c P → HasCause a c P
cause_from {a = a} {b = b} {c = c} is cause = record { later = omega (arith, is, cause.later); rose = λ p. rose_from a b c (omega (arith, is)) (cause.rose p); same = λ none. cause.same none ∙ is }

pub cause_to : {P : Type 0} {a b c : ℕ} → HasCause a b P → c ≡ b → HasCause a c P
cause_to {a = a} {b = b} {c = c} cause is = record { later = omega (arith, is, cause.later); rose = λ p. rose_to a b c (omega (arith, is)) (cause.rose p); same = λ none. is ∙ cause.same none }

-- one call, and another
pub cause_then : {P Q : Type 0} {a b c : ℕ} → HasCause a b P → HasCause b c Q → HasCause a c (P ⊎ Q)
cause_then {P = P} {Q = Q} {a = a} {b = b} {c = c} one other = record {
  later = omega (arith, one.later, other.later);
  rose = λ fault. elim fault [ inl p ↦ rose_to a b c other.later (one.rose p) | inr q ↦ rose_from a b c one.later (other.rose q) ];
  same = λ none. other.same (λ q. none (inr q)) ∙ one.same (λ p. none (inl p));
}

-- where the count stands there was no fault, and what is no fault needs no cause
pub no_cause : {P : Type 0} {a b : ℕ} → b ≡ a → (P → ⊥) → HasCause a b P
no_cause is none = record { later = omega (arith, is); rose = λ p. absurd (none p); same = λ n. is }

-- where a count didn't rise there was no fault
pub no_fault : {P : Type 0} {a b : ℕ} → HasCause a b P → (Rose a b → ⊥) → P → ⊥
no_fault cause none p = none (cause.rose p)
