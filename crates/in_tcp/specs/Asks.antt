-- What a look for a connection is answered, and what it leaves.
use Rattle.std.specs.Prelude.{◌≡◌, ◌≤◌, ◌<◌, ℕ, Bool, true, false, Result, Ok, Err, List, [], ◌∷◌, ◌++◌, length}
use Rattle.io_traits.specs.Connections.{IsNumbered, IsOver, KeepsReads, Lessens, brought}
use Rattle.io_traits.specs.Counts.{HasCause}
use Rattle.io_traits.specs.Telling.{Grows}
use Rattle.io_traits.specs.declared.faults.Failed.{Failed}
use Rattle.io_traits.specs.declared.links.Come.{Come}
use Rattle.io_traits.specs.declared.links.Come.TheVariants.{Conn, NotYet, Ended}
use Rattle.io_traits.specs.declared.links.Links.{Ghosts as LinksWords}
use Rattle.in_lines.specs.declared.poll_outcome.PollFault.{PollFault}
use Rattle.in_lines.specs.declared.poll_outcome.PollFault.TheVariants.{Fault, Memory}

-- how many connections may be open
abbrev pub most_open : ℕ
most_open = 64

-- as many as may be are open, so that none was looked for; or this was the answer; or there was no memory for one more
pub data Asked : Type 0 where
  Full : Asked
  Answered : Result Come Failed → Asked
  NoRoom : Asked

-- the look is told with its host and port
abbrev pub places_of : Asked → List ℕ → ℕ → List (List ℕ × ℕ)
places_of Full host port = []
places_of (Answered r) host port = (host, port) ∷ []
places_of NoRoom host port = []

-- the connection that came
abbrev pub come_in : Result Come Failed → List ℕ
come_in (Ok (Conn n)) = n ∷ []
come_in (Ok NotYet) = []
come_in (Ok Ended) = []
come_in (Err e) = []

abbrev pub came_in : Asked → List ℕ
came_in Full = []
came_in (Answered r) = come_in r
came_in NoRoom = []

-- how many connections came after it
abbrev pub IsCounted : Asked → ℕ → ℕ → Type 0
IsCounted Full before now = now ≡ before
IsCounted (Answered r) before now = IsNumbered r before now
IsCounted NoRoom before now = now ≡ before

abbrev pub brought_by : Asked → ℕ
brought_by Full = 0
brought_by (Answered r) = brought r
brought_by NoRoom = 0

-- exactly where fewer are open a look was to be made
abbrev pub HasRoom : Asked → ℕ → Type 0
HasRoom Full n = most_open ≤ n
HasRoom (Answered r) n = n < most_open
HasRoom NoRoom n = n < most_open

-- no more will come
abbrev pub is_ended_come : Result Come Failed → Bool
is_ended_come (Ok (Conn n)) = false
is_ended_come (Ok NotYet) = false
is_ended_come (Ok Ended) = true
is_ended_come (Err e) = false

abbrev pub is_over : Asked → Bool
is_over Full = false
is_over (Answered r) = is_ended_come r
is_over NoRoom = false

-- the answer of the look, where it was the whole
abbrev pub over_or : Result Come Failed → Result Bool PollFault
over_or (Ok c) = Ok (is_ended_come (Ok c))
over_or (Err e) = Err Fault

abbrev pub answer_of : Asked → Result Bool PollFault
answer_of Full = Ok false
answer_of (Answered r) = over_or r
answer_of NoRoom = Err Memory

module _ {L : Type 0} (links : LinksWords L) where
  -- what a look did to the connections: with this host and port, or none was made
  pub record Looks (host : List ℕ) (port : ℕ) (asked : Asked) (old new : L) : Type 0 where
    pub places : Grows (links.looks old) (links.looks new) (places_of asked host port)
    pub came : IsCounted asked (links.came old) (links.came new)
    pub coming : Lessens (links.coming old) (links.coming new) (brought_by asked)
    pub over : is_over asked ≡ true → IsOver (links.coming new)
    pub fault : HasCause (links.accept_faults old) (links.accept_faults new) (answer_of asked ≡ Err Fault)
    pub waits : HasCause (links.accept_waits old) (links.accept_waits new) (asked ≡ Answered (Ok NotYet))

  -- A connection was looked for, where there is room for one, and it is open now.
  pub record Looked (host : List ℕ) (port : ℕ) (opened_old opened_new : List ℕ) (old new : L) (result : Result Bool PollFault) : Type 0 where
    pub asked : Asked
    pub room : HasRoom asked (length opened_old)
    pub looks : Looks host port asked old new
    pub keeps : KeepsReads links.given links.left links.faults links.waits old new
    pub connections : opened_new ≡ opened_old ++ came_in asked
    pub answer : result ≡ answer_of asked
