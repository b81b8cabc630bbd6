-- The counts of connections on the real machine.
use Rattle.std.specs.Prelude.{◌≡◌, ◌<◌, ◌≤◌, ◌-◌, ◌^◌, ℕ, Bool, true, Option, Some, None, is_some, List, [], ◌∷◌, ◌++◌, ◌+◌, Result, Ok, Err, nat_eq, nat_lt, not, filter, length, if◌then◌else◌}
use Rattle.io_traits.specs.Counts.{one_more}
use Rattle.io_traits.specs.declared.faults.Failed.{Failed}
use Rattle.io_traits.specs.declared.links.Come.{Come}
use Rattle.io_traits.specs.declared.links.Come.TheVariants.{Conn, NotYet, Ended}
use Rattle.io_traits.specs.declared.sources.Step.{Step}
use Rattle.io_traits.specs.declared.sources.Step.TheVariants.{End as AtEnd}
use Rattle.io_real.specs.Adapters.{ReadCounts, no_counts, counts_after}
use Rattle.io_real.specs.declared.connections.Connection.{Connection}

-- a connection that is open: its number, and its counts
abbrev pub Open : Type 0
Open = ℕ × ReadCounts

abbrev pub open_of : {S : Type 0} → Connection S → Open
open_of c = (c.number, c.source.counts)

-- how many connections came, those that are open, and how often a look failed and found none yet
pub record LinkCounts : Type 0 where
  pub came : ℕ
  pub connections : List Open
  pub accepts : ReadCounts

-- the counts of a connection that isn't kept any more
abbrev pub last_counts : ReadCounts
last_counts = record { faults = 2 ^ 64 - 1; waits = 2 ^ 64 - 1 }

-- the counts of the first of these connections with this number, or else these
abbrev pub counts_among : ReadCounts → ℕ → List Open → ReadCounts
counts_among missing conn [] = missing
counts_among missing conn (o ∷ rest) = if nat_eq o.0 conn then o.1 else counts_among missing conn rest

-- the counts of a connection: none before it came, the last numbers once it is closed
abbrev pub counts_of : LinkCounts → ℕ → ReadCounts
counts_of l conn = counts_among (if nat_lt conn l.came then last_counts else no_counts) conn l.connections

-- how often a read of a connection failed, and how often it found nothing yet
abbrev pub faults_of : LinkCounts → ℕ → ℕ
faults_of l conn = (counts_of l conn).faults

abbrev pub waits_of : LinkCounts → ℕ → ℕ
waits_of l conn = (counts_of l conn).waits

-- the connections with other numbers
abbrev pub others : ℕ → List Open → List Open
others conn all = filter (λ o. not (nat_eq o.0 conn)) all

-- the place of the first connection with this number, counted from here on
abbrev pub place_from : ℕ → ℕ → List Open → Option ℕ
place_from at conn [] = None
place_from at conn (o ∷ rest) = if nat_eq o.0 conn then Some at else place_from (at + 1) conn rest

-- a connection with this number is open
abbrev pub is_open : ℕ → List Open → Bool
is_open conn connections = is_some (place_from 0 conn connections)

-- the counts after a read of the first connection with this number
abbrev pub counted : ℕ → Result Step Failed → List Open → List Open
counted conn result [] = []
counted conn result (o ∷ rest) = if nat_eq o.0 conn then (o.0, counts_after o.1 result) ∷ rest else o ∷ counted conn result rest

-- each of these connections came, and its counts are numbers of 64 bits
abbrev pub AllCame : ℕ → List Open → Type 0
AllCame came [] = Unit {0}
AllCame came (o ∷ rest) = (o.0 < came) × (o.1.faults ≤ 2 ^ 64 - 1) × (o.1.waits ≤ 2 ^ 64 - 1) × AllCame came rest

-- one more came, which is open
abbrev pub with_next : LinkCounts → ℕ → LinkCounts
with_next l number = record l { came = l.came + 1; connections = l.connections ++ (number, no_counts) ∷ [] }

-- the counts after a look, by its answer
abbrev pub after_accept : LinkCounts → Result Come Failed → LinkCounts
after_accept l (Ok (Conn n)) = with_next l n
after_accept l (Ok NotYet) = record l { accepts = record l.accepts { waits = one_more l.accepts.waits } }
after_accept l (Ok Ended) = l
after_accept l (Err e) = record l { accepts = record l.accepts { faults = one_more l.accepts.faults } }

-- after a read of a connection, by its answer, and once it is closed
abbrev pub after_read : LinkCounts → ℕ → Result Step Failed → LinkCounts
after_read l conn result = record l { connections = counted conn result l.connections }

abbrev pub after_close : LinkCounts → ℕ → LinkCounts
after_close l conn = record l { connections = others conn l.connections }

-- where the connection is open, its end is told of a room that isn't empty alone
abbrev pub EndHasRoom : Bool → Result Step Failed → List ℕ → Type 0
EndHasRoom opened result room = opened ≡ true → result ≡ Ok AtEnd → 0 < length room
