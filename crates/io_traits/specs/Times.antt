-- How the moments of a store go on.
use Rattle.std.specs.Prelude.{◌⊎◌, ◌≤◌, ◌↔◌, ℕ}
use Rattle.io_traits.specs.Images.{Image}

-- Time goes on: what a stop may have left at a moment that is past stays, and one at a later moment leaves what it may leave at the beginning or at the end.
pub record Elapses (before now : ℕ) (old new : ℕ → Image → Type 0) : Type 0 where
  pub later : before ≤ now
  pub past : (t : ℕ) (i : Image) → t ≤ before → new t i ↔ old t i
  pub within : (t : ℕ) (i : Image) → before ≤ t → t ≤ now → new t i → old before i ⊎ new now i
