-- The parts behind the start of names.
use Rattle.std.specs.Prelude.{◌≡◌, ◌⊎◌, ℕ, List, [], ◌∷◌, ◌++◌}
use Rattle.std.specs.List.{Contains}
use Rattle.std.specs.Map.{keys_of}
use Rattle.plain_data.specs.Keys.{Ascends}
use Rattle.io_traits.specs.Folders.{IsPart}
use Rattle.io_memory.specs.Tables.{Table}

-- the part behind the start of a name was taken, if it has one
abbrev pub Takes : List ℕ → List ℕ → List (List ℕ) → List (List ℕ) → Type 0
Takes start name old new = ((part : List ℕ) × (name ≡ start ++ part) × IsPart part × (new ≡ old ++ part ∷ [])) ⊎ (((part : List ℕ) → name ≡ start ++ part → IsPart part → ⊥) × (new ≡ old))

-- the parts behind a start of the names of a table
pub record IsListed (start : List ℕ) (done : Table) (names : List (List ℕ)) : Type 0 where
  pub ascends : Ascends names
  pub from : (part : List ℕ) → Contains names part → IsPart part × Contains (keys_of done) (start ++ part)
  pub all : (part : List ℕ) → IsPart part → Contains (keys_of done) (start ++ part) → Contains names part
