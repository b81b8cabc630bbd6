-- The fields of a head, by their names.
use Rattle.std.specs.Prelude.{ℕ, List, [], ◌∷◌, Bool, if◌then◌else◌, bytes_eq}
use Rattle.std.specs.Str.{str_to_ascii_lowercase}

-- the name and the value of each field, in their order
abbrev pub Named : Type 0
Named = List (List ℕ × List ℕ)

-- names are the same in capital and in small letters (RFC 9110, section 5.1), and so are the names of codings
abbrev pub is_same : List ℕ → List ℕ → Bool
is_same a b = bytes_eq (str_to_ascii_lowercase a) (str_to_ascii_lowercase b)

-- the values of the fields of a name, in their order
abbrev pub values_of : List ℕ → Named → List (List ℕ)
values_of name [] = []
values_of name (f ∷ fs) = if is_same f.0 name then f.1 ∷ values_of name fs else values_of name fs
