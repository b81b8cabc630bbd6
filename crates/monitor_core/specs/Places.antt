-- The places of the counters, and sums.
use Rattle.std.specs.Prelude.{◌==◌, ◌||◌, ◌+◌, ◌-◌, ◌^◌, ℕ, Bool, false, List, [], ◌∷◌}
use Rattle.monitor_core.specs.declared.counter.Counter.{Counter}
use Rattle.monitor_core.specs.declared.counter.Counter.TheVariants as counter
use Rattle.monitor_core.specs.declared.counter.Total.{Total}

-- the place of a counter among the words of a seat
abbrev pub place : Counter → ℕ
place counter.Accepted = 0
place counter.Delivered = 1
place counter.Dead = 2
place counter.Acknowledged = 3

-- the last number of 64 bits, at which a counter stays
abbrev pub last : ℕ
last = 2 ^ 64 - 1

-- the sum of numbers
unfoldable pub sum_of : List ℕ → ℕ
sum_of [] = 0
sum_of (n ∷ ns) = n + sum_of ns

-- whether one of them stands at the last number
unfoldable pub any_last : List ℕ → Bool
any_last [] = false
any_last (n ∷ ns) = (n == last) || any_last ns

-- the numbers added up
abbrev pub total_of : List ℕ → Total
total_of ns = record { sum = sum_of ns; stuck = any_last ns }
