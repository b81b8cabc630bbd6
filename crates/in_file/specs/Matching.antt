-- Which names a pattern stands for: `*` stands for any bytes, and every other byte for itself.
use Rattle.std.specs.Prelude.{ℕ, ◌==◌, ◌&&◌, ◌||◌, Bool, true, false, List, [], ◌∷◌, if◌then◌else◌}
use Rattle.std.specs.List.{list_any}

-- some end of a name passes, of all its ends
abbrev pub some_end : (List ℕ → Bool) → List ℕ → Bool
some_end test [] = test []
some_end test (b ∷ s) = test (b ∷ s) || some_end test s

-- it begins with this byte, and what is behind passes
abbrev pub starts : ℕ → (List ℕ → Bool) → List ℕ → Bool
starts byte test [] = false
starts byte test (b ∷ s) = b == byte && test s

abbrev pub is_none : List ℕ → Bool
is_none [] = true
is_none (b ∷ s) = false

-- a byte of a pattern stands for the front of a name, and what is behind passes
abbrev pub behind : ℕ → (List ℕ → Bool) → List ℕ → Bool
behind byte test s = if byte == 42 then some_end test s else starts byte test s

-- a pattern stands for a name
abbrev pub stands_for : List ℕ → List ℕ → Bool
stands_for [] name = is_none name
stands_for (p ∷ pattern) name = behind p (λ s. stands_for pattern s) name

-- a test of each end of a name, from the whole on
abbrev pub ends_of : (List ℕ → Bool) → List ℕ → List Bool
ends_of test [] = test [] ∷ []
ends_of test (b ∷ s) = test (b ∷ s) ∷ ends_of test s

-- whether each or a later one is true
abbrev pub any_from : List Bool → List Bool
any_from [] = []
any_from (b ∷ bs) = list_any (λ x. x) (b ∷ bs) ∷ any_from bs

-- what is said of the whole
abbrev pub first_of : List Bool → Bool
first_of [] = false
first_of (b ∷ bs) = b
