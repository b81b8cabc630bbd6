-- Jobs that are out, and how they leave and come home.
use Rattle.std.specs.Prelude.{◌≡◌, ℕ, List, [], ◌∷◌, ◌++◌, ◌⊎◌}
use Rattle.io_traits.specs.Counts.{Rose}

module _ {T : Type 0} where
  -- one job more is out
  pub record IsAdded (job : T) (old new : List T) : Type 0 where
    pub before : List T
    pub behind : List T
    pub was : old ≡ before ++ behind
    pub is : new ≡ before ++ job ∷ behind

module _ {T D : Type 0} where
  -- one job is no longer out, and this is a result of it
  pub record ComesHome (gives : T → D → Type 0) (old new : List T) (done : D) : Type 0 where
    pub job : T
    pub result : gives job done
    pub leaves : IsAdded job new old

-- no job was out, or the looks rose, and nothing else changed
abbrev pub HasReason : {T : Type 0} → List T → List T → ℕ → ℕ → Type 0
HasReason old new before now = (new ≡ old) × ((old ≡ []) ⊎ Rose before now)
