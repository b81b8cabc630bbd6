-- Hosts as the settings write them.
use Rattle.std.specs.Prelude.{◌==◌, ◌&&◌, ◌||◌, ℕ, List, [], ◌∷◌, Bool, false, is_some}
use Rattle.settings_lines.specs.Numbers.{number_in}

-- b':'
abbrev pub colon : ℕ
colon = 58

-- a port: a number from 1 to 65,535 in decimal digits
abbrev pub is_port : List ℕ → Bool
is_port s = is_some (number_in 1 65535 s)

-- a port stands behind a colon; any text may stand in front of it
abbrev pub is_host : List ℕ → Bool
is_host [] = false
is_host (b ∷ s) = ((b == colon) && is_port s) || is_host s
