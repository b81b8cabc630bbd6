-- The numbers of the places to which an event was sent, as they are held.
use Rattle.std.specs.Prelude.{ℕ, List, [], ◌∷◌}
use Rattle.event_flow.specs.declared.targets.TargetNumbers.{TargetNumbers}
use Rattle.event_flow.specs.declared.targets.TargetNumbers.TheVariants as held

abbrev pub numbers_in : TargetNumbers → List ℕ
numbers_in (held.One number alloc) = number ∷ []
numbers_in (held.All numbers) = numbers
