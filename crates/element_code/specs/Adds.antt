-- Bytes that are written behind others.
use Rattle.std.specs.Prelude.{ℕ, List, Result, Ok, Err}
use Rattle.event_tree.specs.Adds.{Adds, Keeps}

-- The bytes are added; where memory runs out, those that were there are still in front.
abbrev pub Writes : {E : Type 0} → Result (Unit {0}) E → List ℕ → List ℕ → List ℕ → Type 0
Writes (Ok u) bytes old new = Adds bytes old new
Writes (Err e) bytes old new = Keeps old new
