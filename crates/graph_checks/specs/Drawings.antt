-- Boxes that are drawn from a rack one after another, and that go back.
use Rattle.std.specs.Prelude.{◌≡◌, ◌<◌, ℕ, List, [], ◌∷◌}
use Rattle.foreign_parts.specs.Stocks.{Stock, IsLast, IsOut, drawn, given_back, left_of, out_of}

-- boxes, each with the name under which it was drawn and the number that it has of its own
abbrev pub Numbered : Type 0
Numbered = List (List ℕ × ℕ)

-- These boxes are drawn one after another, each the last of its name, where this is known of the number of one that was just drawn.
abbrev pub AreDrawn : (List Stock → ℕ → Type 0) → Numbered → List Stock → List Stock → Type 0
AreDrawn Out [] old new = new ≡ old
AreDrawn Out (b ∷ bs) old new = IsLast b.1 (left_of b.0 old) × Out (drawn b.0 old) b.1 × AreDrawn Out bs (drawn b.0 old) new

-- the stocks once these boxes are back, of which the last goes back first
abbrev pub all_back : Numbered → List Stock → List Stock
all_back [] ss = ss
all_back (b ∷ bs) ss = given_back b.0 b.1 (all_back bs ss)

-- each of these boxes may go back, the last of them first
abbrev pub MayGoBack : (List Stock → ℕ → Type 0) → Numbered → List Stock → Type 0
MayGoBack Out [] ss = Unit {0}
MayGoBack Out (b ∷ bs) ss = MayGoBack Out bs ss × (0 < out_of b.0 (all_back bs ss)) × Out (all_back bs ss) b.1

-- first these filters are drawn, and then these outputs, of a rack that has given so many numbers
pub record AllDrawn (given : ℕ) (filters outputs : Numbered) (fs os new_fs new_os : List Stock) : Type 0 where
  pub of_filters : AreDrawn (λ ss n. IsOut given ss os n) filters fs new_fs
  pub of_outputs : AreDrawn (λ ss n. IsOut given new_fs ss n) outputs os new_os

-- these outputs, and then these filters, may go back
pub record AllMayGoBack (given : ℕ) (filters outputs : Numbered) (fs os : List Stock) : Type 0 where
  pub of_outputs : MayGoBack (λ ss n. IsOut given fs ss n) outputs os
  pub of_filters : MayGoBack (λ ss n. IsOut given ss (all_back outputs os) n) filters fs
