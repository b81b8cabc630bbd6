-- What is left of each connection behind its last whole line.
use Rattle.std.specs.Prelude.{◌≡◌, ℕ, ◌+◌, List, [], ◌∷◌, Option, Some, None, nat_eq, if◌then◌else◌}
use Rattle.in_tcp.specs.Lines.{Part}

-- the bytes of the first part of a connection
abbrev pub bytes_of : List Part → ℕ → List ℕ
bytes_of [] n = []
bytes_of (part ∷ parts) n = if nat_eq part.conn n then part.bytes else bytes_of parts n

-- the bytes of one connection are these now, and those of each other one stay
abbrev pub Becomes : ℕ → List ℕ → List Part → List Part → Type 0
Becomes conn bytes old new = (n : ℕ) → bytes_of new n ≡ (if nat_eq conn n then bytes else bytes_of old n)

-- the place of the first part of a connection, counted from here on
abbrev pub place_from : ℕ → ℕ → List Part → Option ℕ
place_from at conn [] = None
place_from at conn (part ∷ parts) = if nat_eq part.conn conn then Some at else place_from (at + 1) conn parts
