-- An output file as contracts see it.
use Rattle.std.specs.Prelude.{◌⊎◌, ◌≡◌, ℕ, List}

pub record Output : Type 0 where
  -- the names of the file and of its position file
  pub path : List ℕ
  pub slot : List ℕ
  -- what the newest slot records, and its turn
  pub position : ℕ
  pub turn : ℕ

-- its own files
abbrev pub IsOwn : Output → List ℕ → Type 0
IsOwn out name = (name ≡ out.path) ⊎ (name ≡ out.slot)
