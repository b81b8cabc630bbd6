-- Keys in the order of their bytes.
use Rattle.std.specs.Prelude.{◌≡◌, ℕ, Bool, List, [], ◌∷◌, ⊤}
use Rattle.std.specs.Ordering.{nat_cmp, Ordering-set, is_eq}
use Rattle.std.specs.Cmp.Lexicographic.{slice_cmp}
use Rattle.std.specs.declared.cmp.Ordering.{Ordering}
use Rattle.std.specs.declared.cmp.Ordering.TheVariants.{Less}
use mathlib.Core.HLevel.{×_prop, Unit-prop}

-- the order of two texts: by their bytes, from the first on, and a text before a longer one that begins with it
abbrev pub text_cmp : List ℕ → List ℕ → Ordering
text_cmp = slice_cmp nat_cmp

-- whether two texts are the same
abbrev pub same_key : List ℕ → List ℕ → Bool
same_key k l = is_eq (text_cmp k l)

-- the key is below each of these
abbrev pub Below : List ℕ → List (List ℕ) → Type 0
Below k [] = ⊤
Below k (l ∷ ls) = (text_cmp k l ≡ Less) × Below k ls

-- each key is below all that come after it
abbrev pub Ascends : List (List ℕ) → Type 0
Ascends [] = ⊤
Ascends (k ∷ ks) = Below k ks × Ascends ks

Below-prop : (k : List ℕ) (ls : List (List ℕ)) → IsProp (Below k ls)
Below-prop k [] = Unit-prop
Below-prop k (l ∷ ls) = ×_prop (Ordering-set _ _) (Below-prop k ls)

-- there is one proof at most that keys ascend
pub Ascends-prop : (ks : List (List ℕ)) → IsProp (Ascends ks)
Ascends-prop [] = Unit-prop
Ascends-prop (k ∷ ks) = ×_prop (Below-prop k ks) (Ascends-prop ks)
