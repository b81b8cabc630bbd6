-- The answers of a control.
use Rattle.std.specs.Prelude.{◌≡◌, ◌⊎◌, List, [], ◌∷◌, Option, Some}
use Rattle.io_traits.specs.declared.controls.Said.{Said}
use Rattle.io_traits.specs.declared.controls.Said.TheVariants.{Go}

-- an answer was the next of those that are left, or Go where none is left
pub record IsNext (old new : Option (List Said)) (answer : Said) : Type 0 where
  pub each : (rest : List Said) → new ≡ Some rest → (old ≡ Some (answer ∷ rest)) ⊎ ((old ≡ Some []) × (rest ≡ []) × (answer ≡ Go))
