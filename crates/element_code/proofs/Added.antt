-- Bytes that are added one part after another.
use Rattle.std.proofs.Common.{◌≡◌, ℕ, List, ◌++◌, Result, Ok, Err, rules}
use Rattle.std.specs.Result.{IsErr}
use Rattle.event_tree.specs.Adds.{Adds, Keeps}
use Rattle.event_tree.proofs.Adding.{adds_on, keeps_on}
use Rattle.element_code.specs.Adds.{Writes}

pub then_writes : {E : Type 0} (r : Result (Unit {0}) E) (one two whole old mid new : List ℕ) → whole ≡ one ++ two → Adds one old mid → Writes r two mid new → Writes r whole old new
then_writes (Ok u) one two whole old mid new e h k = adds_on one two whole old mid new e h k
then_writes (Err x) one two whole old mid new e h k = keeps_on old mid new (one, h) k

pub stops : {E : Type 0} (r : Result (Unit {0}) E) (bytes old new : List ℕ) → IsErr r → Keeps old new → Writes r bytes old new
stops (Ok u) bytes old new is k = absurd (search (is, rules))
stops (Err e) bytes old new is k = k
