-- Why bytes are no JSON text that is read.
use Rattle.std.specs.Prelude.{◌≡◌, ℕ, List, Result, Ok, Err}
use Rattle.std.specs.Str.{IsUtf8, IsValidUpTo}
use Rattle.event_tree.specs.declared.value.Value.{Value}
use Rattle.event_json.specs.JsonValues.{StopsAt, PassesAt}
use Rattle.event_json.specs.declared.fault.JsonFault.{JsonFault}
use Rattle.event_json.specs.declared.fault.JsonFault.TheVariants.{NotUtf8, At, Deep, Memory}

-- bytes that are no UTF-8 have the place of the first byte that begins no character, and no other fault; in UTF-8 a fault has the place of the first byte with which no text goes on, or of the bracket or brace that opens a level too many
abbrev pub IsFault : ℕ → List ℕ → JsonFault → Type 0
IsFault levels bytes (NotUtf8 k) = IsValidUpTo bytes k × (IsUtf8 bytes → ⊥)
IsFault levels bytes (At k) = IsUtf8 bytes × StopsAt levels bytes k
IsFault levels bytes (Deep k) = IsUtf8 bytes × PassesAt levels bytes k
IsFault levels bytes Memory = Unit {0}

-- the answer is the value d, unless memory ran out
abbrev pub IsOnly : Value → Result Value JsonFault → Type 0
IsOnly d (Ok value) = value ≡ d
IsOnly d (Err (NotUtf8 k)) = ⊥
IsOnly d (Err (At k)) = ⊥
IsOnly d (Err (Deep k)) = ⊥
IsOnly d (Err Memory) = Unit {0}
