-- What a clock over a list of moments holds, and what it gives.
use Rattle.std.specs.Prelude.{ℤ, List, [], ◌∷◌, ◌++◌, Option, drop}
use Rattle.std.specs.Option.{option_map}

-- the moments that are left to give, the one that it gave last, and all that it gave, where it keeps them
pub record Ticking : Type 0 where
  pub left : List ℤ
  pub last : ℤ
  pub given : Option (List ℤ)

-- the first of these moments, or else the last one again
abbrev pub first_or : ℤ → List ℤ → ℤ
first_or last [] = last
first_or last (moment ∷ left) = moment

-- the moment that it gives next
abbrev pub next_moment : Ticking → ℤ
next_moment t = first_or t.last t.left

-- it gave that moment, and keeps these
abbrev pub after_now : Ticking → Option (List ℤ) → Ticking
after_now t given = record { left = drop 1 t.left; last = next_moment t; given = given }

-- with one moment more
abbrev pub given_more : Ticking → Option (List ℤ)
given_more t = option_map (λ moments. moments ++ next_moment t ∷ []) t.given
