-- Bytes that are added behind others.
use Rattle.std.specs.Prelude.{◌≡◌, ℕ, List, ◌++◌}

-- the bytes were added
abbrev pub Adds : List ℕ → List ℕ → List ℕ → Type 0
Adds bytes old new = new ≡ old ++ bytes

-- those that were there are still in front
abbrev pub Keeps : List ℕ → List ℕ → Type 0
Keeps old new = (more : List ℕ) × (new ≡ old ++ more)
