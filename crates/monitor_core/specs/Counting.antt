-- What a seat counted, and the sums that a monitor gives.
use Rattle.std.specs.Prelude.{◌≡◌, ◌+◌, ℕ, List, map, length, min, slice_index, slice_set}
use Rattle.monitor_core.specs.Places.{place, last, total_of}
use Rattle.monitor_core.specs.declared.counter.Counter.{Counter}
use Rattle.monitor_core.specs.declared.counter.Counter.TheVariants as counter
use Rattle.monitor_core.specs.declared.counter.Total.{Total}
use Rattle.monitor_core.specs.declared.counter.Totals.{Totals}
use Rattle.monitor_core.specs.declared.monitor.CountSeat.{CountSeat}
use Rattle.monitor_core.specs.declared.monitor.Monitor.{Monitor}

-- the four numbers of a seat
abbrev pub counts : CountSeat → List ℕ
counts s = s.seat.me.0.counts

-- what a seat counted
abbrev pub counted : Counter → CountSeat → ℕ
counted c s = slice_index (counts s) (place c)

-- which of the monitor's seats it is, from 0 on
abbrev pub number_of : CountSeat → ℕ
number_of s = s.number

-- how many seats the monitor has
abbrev pub seats_of : Monitor → ℕ
seats_of m = m.seats

-- the seat is one of this monitor's
abbrev pub IsSeatOf : Monitor → CountSeat → Type 0
IsSeatOf m s = s.seat.table_id ≡ m.table.shared.table_id

-- so many more, up to the last number
abbrev pub more : ℕ → ℕ → ℕ
more by n = min (n + by) last

-- the seat behind an add
pub record Adds (c : Counter) (by : ℕ) (old new : CountSeat) : Type 0 where
  pub counts : counts new ≡ slice_set (counts old) (place c) (more by (counted c old))
  pub number : number_of new ≡ number_of old

-- a number of each of so many seats is added up, and that of the seat with this number is its own
pub record AddsUp (seats number own : ℕ) (t : Total) : Type 0 where
  pub found : List ℕ
  pub whole : length found ≡ seats
  pub own_whole : slice_index found number ≡ own
  pub total : t ≡ total_of found

-- the exact sum of what the seats counted
abbrev pub sum_over : List CountSeat → Counter → Total
sum_over seats c = total_of (map (counted c) seats)

abbrev pub totals_of : List CountSeat → Totals
totals_of seats = record {
  accepted = sum_over seats counter.Accepted;
  delivered = sum_over seats counter.Delivered;
  dead = sum_over seats counter.Dead;
  acknowledged = sum_over seats counter.Acknowledged;
}
