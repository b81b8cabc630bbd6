-- How long the encoding of a value is: a tag of one byte, and counts and lengths of four bytes each.
use Rattle.std.specs.Prelude.{ℕ, ◌+◌, ◌-◌, List, [], ◌∷◌, length, map, Option, Some, None, if◌then◌else◌, nat_lt}
use Rattle.event_tree.specs.Values.{Members, on_values}
use Rattle.event_tree.specs.declared.value.Value.{Value}
use Rattle.event_tree.specs.declared.value.Value.TheOpen.{Value-F}
use Rattle.event_tree.specs.declared.value.Value.TheFolds.{fold-Value}

abbrev pub total : List ℕ → ℕ
total [] = 0
total (n ∷ ns) = n + total ns

-- each key with its length before it, and each value
abbrev pub members_total : List (List ℕ × ℕ) → ℕ
members_total [] = 0
members_total (m ∷ ms) = 4 + length m.0 + m.1 + members_total ms

-- a mantissa of eight bytes and a scale of one; seconds of eight bytes and nanoseconds of four
abbrev pub size_step : Value-F ℕ → ℕ
size_step Value-F.Null = 1
size_step (Value-F.Bool b) = 1
size_step (Value-F.Num n) = 10
size_step (Value-F.Text s) = 5 + length s
size_step (Value-F.Time t) = 13
size_step (Value-F.List ns) = 5 + total ns
size_step (Value-F.Object ms) = 5 + members_total ms

unfoldable pub size : Value → ℕ
size = fold-Value ℕ size_step

abbrev pub items_size : List Value → ℕ
items_size vs = total (map size vs)

abbrev pub members_size : Members → ℕ
members_size ms = members_total (on_values size ms)

-- what is left of n after m; none where there is less
abbrev pub less : ℕ → ℕ → Option ℕ
less n m = if nat_lt n m then None else Some (n - m)
