-- What one worker adds to the results of a shop at the end.
use Rattle.std.specs.Prelude.{◌≡◌, List, [], ◌∷◌, ◌++◌}

module _ {T D : Type 0} where
  -- a result of the job, if there was one
  abbrev pub AddsResult : (T → D → Type 0) → List T → List D → List D → Type 0
  AddsResult gives [] old new = new ≡ old
  AddsResult gives (j ∷ []) old new = (d : D) × gives j d × (new ≡ old ++ d ∷ [])
  AddsResult gives (j ∷ i ∷ js) old new = ⊥
