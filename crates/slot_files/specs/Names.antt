-- The names of position files.
use Rattle.std.specs.Prelude.{◌≡◌, ◌<◌, ◌/◌, ◌%◌, ◌||◌, ◌==◌, ℕ, Bool, List, [], ◌∷◌, ◌++◌, get_or, codes, if◌then◌else◌}
use Rattle.std.specs.Char.{digit_char, is_ascii_alphanumeric}
use Rattle.slot_files.specs.declared.name.PositionOf.{PositionOf}
use Rattle.slot_files.specs.declared.name.PositionOf.TheVariants.{Output, Input}

-- ASCII letters, digits, `-` and `.`
abbrev pub is_plain : ℕ → Bool
is_plain byte = is_ascii_alphanumeric byte || (byte == 45) || (byte == 46)

-- a byte in a name: itself, or `_` and its two digits in base 16
abbrev pub byte_named : ℕ → List ℕ
byte_named byte = if is_plain byte then byte ∷ [] else 95 ∷ digit_char (byte / 16) ∷ digit_char (byte % 16) ∷ []

abbrev pub path_named : List ℕ → List ℕ
path_named [] = []
path_named (byte ∷ path) = byte_named byte ++ path_named path

abbrev pub start_of : PositionOf → List ℕ
start_of Output = codes "out."
start_of Input = codes "in."

-- the last part of the name of the position file that belongs to a path
abbrev pub position_name : PositionOf → List ℕ → List ℕ
position_name of path = start_of of ++ path_named path

-- no two paths have one name
abbrev pub NamesDiffer : Type 0
NamesDiffer = (of : PositionOf) (one other : List ℕ) → ((i : ℕ) → get_or one i 0 < 256) → ((i : ℕ) → get_or other i 0 < 256) → position_name of one ≡ position_name of other → one ≡ other
