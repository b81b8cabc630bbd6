-- How the lists that objects of the outside tell of themselves change. An object tells Some list, or None: then nothing is said of it.
use Rattle.std.specs.Prelude.{◌≡◌, ◌≤◌, ℕ, List, [], ◌++◌, length, Option, Some}

-- a list grew by these at its end; where the new list is told, the old one was told too
pub record Grows {X : Type 0} (old new : Option (List X)) (more : List X) : Type 0 where
  pub each : (now : List X) → new ≡ Some now → (before : List X) × (old ≡ Some before) × (now ≡ before ++ more)

-- a list grew by the first few of these, or by all or none of them
pub record GrowsInPart {X : Type 0} (old new : Option (List X)) (all : List X) : Type 0 where
  pub part : List X
  pub rest : List X
  pub whole : all ≡ part ++ rest
  pub grows : Grows old new part

-- these were taken from the front of what is left
pub record Shrinks {X : Type 0} (old new : Option (List X)) (taken : List X) : Type 0 where
  pub each : (rest : List X) → new ≡ Some rest → old ≡ Some (taken ++ rest)

-- nothing is left
pub record IsAtEnd {X : Type 0} (left : Option (List X)) : Type 0 where
  pub none : (rest : List X) → left ≡ Some rest → rest ≡ []

-- so many of the bytes that were taken are flushed: all of them
pub record IsFlushed (taken : Option (List ℕ)) (flushed : ℕ) : Type 0 where
  pub all : (now : List ℕ) → taken ≡ Some now → flushed ≡ length now

-- so many of the bytes that were taken are flushed: no more than were taken
pub record IsWithin (taken : Option (List ℕ)) (flushed : ℕ) : Type 0 where
  pub most : (now : List ℕ) → taken ≡ Some now → flushed ≤ length now
