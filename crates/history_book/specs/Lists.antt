-- Members of lists, and parts of them.
use Rattle.std.specs.Prelude.{◌≡◌, ◌≢◌, ◌⊎◌, ◌≤◌, ◌<◌, ℕ, suc, List, [], ◌∷◌, ⊤}

-- it is one of these
abbrev pub IsIn : {X : Type 0} → X → List X → Type 0
IsIn x [] = ⊥
IsIn x (y ∷ ys) = (x ≡ y) ⊎ IsIn x ys

-- they rise, the first being at least this
abbrev pub Rise : ℕ → List ℕ → Type 0
Rise from [] = ⊤
Rise from (n ∷ ns) = (from ≤ n) × Rise (suc n) ns

-- none of these is the number
abbrev pub IsNone : ℕ → List ℕ → Type 0
IsNone n [] = ⊤
IsNone n (m ∷ ns) = (n ≢ m) × IsNone n ns

-- no two of these are the same
abbrev pub Differ : List ℕ → Type 0
Differ [] = ⊤
Differ (n ∷ ns) = IsNone n ns × Differ ns

-- each is below this
abbrev pub AreBelow : ℕ → List ℕ → Type 0
AreBelow end [] = ⊤
AreBelow end (n ∷ ns) = (n < end) × AreBelow end ns
