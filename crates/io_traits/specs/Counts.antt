-- The counts of an object's faults and of its waits, which are numbers of 64 bits.
use Rattle.std.specs.Prelude.{◌≡◌, ◌≤◌, ◌<◌, ◌+◌, ◌-◌, ◌^◌, ◌⊎◌, ℕ, min}

-- a count rose, or it stands at the last number of 64 bits
abbrev pub Rose : ℕ → ℕ → Type 0
Rose before now = (before < now) ⊎ (2 ^ 64 - 1 ≤ now)

-- a count never falls; it rose where there was a fault, and stands as it was where there was none
pub record HasCause (before now : ℕ) (fault : Type 0) : Type 0 where
  pub later : before ≤ now
  pub rose : fault → Rose before now
  pub same : (fault → ⊥) → now ≡ before

-- a count never falls, and it has its cause, but where something else stands in the place of its fault
pub record HasCauseUnless (before now : ℕ) (instead fault : Type 0) : Type 0 where
  pub later : before ≤ now
  pub cause : (instead → ⊥) → HasCause before now fault

-- one more, up to the last number of 64 bits
abbrev pub one_more : ℕ → ℕ
one_more n = min (n + 1) (2 ^ 64 - 1)
