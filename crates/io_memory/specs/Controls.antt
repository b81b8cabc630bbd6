-- What a control over a list of answers holds, and what it says.
use Rattle.std.specs.Prelude.{List, [], ◌∷◌, ◌++◌, Option, drop}
use Rattle.std.specs.Option.{option_map}
use Rattle.io_traits.specs.declared.controls.Said.{Said}
use Rattle.io_traits.specs.declared.controls.Said.TheVariants.{Go}

-- the answers that are left to give, and all that it gave, where it keeps them
pub record Saying : Type 0 where
  pub left : List Said
  pub given : Option (List Said)

-- the first of these answers, or else Go
abbrev pub first_said : List Said → Said
first_said [] = Go
first_said (said ∷ left) = said

-- it gave the next answer, and keeps these
abbrev pub after_next : Saying → Option (List Said) → Saying
after_next s given = record { left = drop 1 s.left; given = given }

-- with one answer more
abbrev pub said_more : Saying → Option (List Said)
said_more s = option_map (λ answers. answers ++ first_said s.left ∷ []) s.given
