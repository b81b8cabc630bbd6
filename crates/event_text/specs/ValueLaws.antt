-- What holds of a number and of a member that stand in an event.
use Rattle.std.specs.Prelude.{◌≡◌, ℕ, List, true}
use Rattle.std.specs.Str.{IsUtf8}
use Rattle.event_tree.specs.Number.{Num, IsLeast}
use Rattle.event_tree.specs.NumberTexts.{IsI64}
use Rattle.event_tree.specs.Sound.{sound}
use Rattle.event_tree.specs.declared.value.Value.{Value}

-- one of 64 bits in least form
abbrev pub IsNumber : Num → Type 0
IsNumber n = IsI64 n.mantissa × IsLeast n.mantissa n.scale

abbrev pub IsSoundMember : List ℕ × Value → Type 0
IsSoundMember member = IsUtf8 member.0 × (sound member.1 ≡ true)
