-- Reading of which nothing is kept: the bytes that are left behind, or how many are left at the place of the fault.
use Rattle.std.specs.Prelude.{ℕ, List, Result, Ok}
use Rattle.crc_frame.specs.Fronts.{◌>>=◌}

-- the bytes behind what is read
abbrev pub behind : {X : Type 0} → Result (X × List ℕ) ℕ → Result (List ℕ) ℕ
behind read = read >>= λ x. Ok x.1

-- that all was read
abbrev pub done : {X : Type 0} → Result X ℕ → Result (Unit {0}) ℕ
done read = read >>= λ _. Ok tt
