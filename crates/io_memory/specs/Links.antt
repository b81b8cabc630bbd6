-- What connections in memory hold, and what their calls do.
use Rattle.std.specs.Prelude.{◌≡◌, ◌⊎◌, ℕ, ◌-◌, min, Bool, true, false, List, [], ◌∷◌, ◌++◌, Option, Some, None, Result, Ok, Err, nat_eq, nat_lt, not, length, take, drop, filter, slice_index_or, slice_set, OnOk, if◌then◌else◌}
use Rattle.std.specs.Option.{option_map}
use Rattle.io_traits.specs.Counts.{one_more}
use Rattle.io_traits.specs.Pieces.{Piece, Came, End, Nothing, bytes_in}
use Rattle.io_traits.specs.declared.faults.Failed.{Failed}
use Rattle.io_traits.specs.declared.links.Come.{Come}
use Rattle.io_traits.specs.declared.links.Come.TheVariants.{Conn, NotYet, Ended}
use Rattle.io_traits.specs.declared.sources.Step.{Step}
use Rattle.io_traits.specs.declared.sources.Step.TheVariants.{Bytes}
use Rattle.io_traits.specs.declared.sources.Step.TheVariants.{NotYet as NoneYet, End as AtEnd}
use Rattle.io_memory.specs.Gave.{piece_of}
use Rattle.io_memory.specs.Sources.{written_over}
use Rattle.io_memory.specs.Scripts.{Course, worked, failed, waited, waits_next}
use Rattle.io_memory.specs.declared.memory_links.ConnectionEvent.{ConnectionEvent}
use Rattle.io_memory.specs.declared.memory_links.ConnState.{ConnState}

-- a piece with the number of its connection
abbrev pub sent_of : ConnectionEvent → ℕ × Piece
sent_of s = (s.conn, piece_of s.gave)

-- where looks were made, if that is told, how many connections come in all, those that came, the pieces that they gave, the pieces that are left, how often a look failed and found none, and the script
pub record Linking : Type 0 where
  pub looks : Option (List (List ℕ × ℕ))
  pub connections : ℕ
  pub came : List ConnState
  pub given : List (ℕ × Piece)
  pub left : List (ℕ × Piece)
  pub accept_faults : ℕ
  pub accept_waits : ℕ
  pub script : Course

-- before the first look
abbrev pub beginning : ℕ → List (ℕ × Piece) → Course → Linking
beginning connections left script = record { looks = Some []; connections = connections; came = []; given = []; left = left; accept_faults = 0; accept_waits = 0; script = script }

-- how many connections are still to come
abbrev pub coming_of : Linking → ℕ
coming_of s = s.connections - length s.came

-- a connection of which nothing was read
abbrev pub fresh : ConnState
fresh = record { is_open = true; faults = 0; waits = 0 }

-- the state of a connection
abbrev pub state_of : Linking → ℕ → ConnState
state_of s conn = slice_index_or s.came conn fresh

-- a connection has this state now
abbrev pub with_state : Linking → ℕ → ConnState → Linking
with_state s conn state = record s { came = slice_set s.came conn state }

-- how often a read of a connection failed, and how often it found nothing yet
abbrev pub faults_of : Linking → ℕ → ℕ
faults_of s conn = (state_of s conn).faults

abbrev pub waits_of : Linking → ℕ → ℕ
waits_of s conn = (state_of s conn).waits

-- with one more of them
abbrev pub one_fault : Linking → ℕ → Linking
one_fault s conn = with_state s conn (record (state_of s conn) { faults = one_more (faults_of s conn) })

abbrev pub one_wait : Linking → ℕ → Linking
one_wait s conn = with_state s conn (record (state_of s conn) { waits = one_more (waits_of s conn) })

-- a piece that has bytes, or an end
abbrev pub is_full : ℕ × Piece → Bool
is_full (conn, Came []) = false
is_full (conn, Came (b ∷ bytes)) = true
is_full (conn, End) = true
is_full (conn, Nothing) = false

-- each piece has bytes, or is an end
abbrev pub AllFull : List (ℕ × Piece) → Type 0
AllFull [] = Unit {0}
AllFull (p ∷ left) = (is_full p ≡ true) × AllFull left

-- a connection's bytes, up to its end
abbrev pub bytes_left : ℕ → List (ℕ × Piece) → List ℕ
bytes_left conn [] = []
bytes_left conn ((from, Came bytes) ∷ left) = if nat_eq from conn then bytes ++ bytes_left conn left else bytes_left conn left
bytes_left conn ((from, End) ∷ left) = if nat_eq from conn then [] else bytes_left conn left
bytes_left conn ((from, Nothing) ∷ left) = bytes_left conn left

-- the bytes that are left of a connection
abbrev pub left_of : Linking → ℕ → List ℕ
left_of s conn = if (state_of s conn).is_open then bytes_left conn s.left else []

-- the pieces of the other connections
abbrev pub without : ℕ → List (ℕ × Piece) → List (ℕ × Piece)
without conn left = filter (λ p. not (nat_eq p.0 conn)) left

-- the first piece, where it is one of this connection
abbrev pub first_from : ℕ → List (ℕ × Piece) → Piece
first_from conn [] = Nothing
first_from conn (p ∷ left) = if nat_eq p.0 conn then p.1 else Nothing

-- so many bytes of the first piece were taken, and the piece itself where none of it is left
abbrev pub taken_off : ℕ → List (ℕ × Piece) → List (ℕ × Piece)
taken_off n [] = []
taken_off n (p ∷ left) = if nat_lt n (length (bytes_in p.1)) then (p.0, Came (drop n (bytes_in p.1))) ∷ left else left

-- what a connection gives next: an end where it is closed, or its end was read
abbrev pub next_from : Linking → ℕ → Piece
next_from s conn = if (state_of s conn).is_open then first_from conn s.left else End

-- what a read of a connection finds, if it doesn't fail
abbrev pub found : Linking → ℕ → Piece
found s conn = if waits_next s.script then Nothing else next_from s conn

-- the answer of a read that finds this: as much as there is room for
abbrev pub step_of : ℕ → Piece → Step
step_of room (Came bytes) = Bytes (min room (length bytes))
step_of room End = AtEnd
step_of room Nothing = NoneYet

-- what a look finds, if it doesn't fail
abbrev pub next_come : Linking → Come
next_come s = if waits_next s.script then NotYet else if nat_lt (length s.came) s.connections then Conn (length s.came) else Ended

-- a connection whose end was read, or that was closed
abbrev pub shut : Linking → ℕ → Linking
shut s conn = record (with_state s conn (record (state_of s conn) { is_open = false })) { left = without conn s.left }

-- one look more is told, or none is told any more
abbrev pub NotesLook : Option (List (List ℕ × ℕ)) → Option (List (List ℕ × ℕ)) → List ℕ → ℕ → Type 0
NotesLook old new host port = (new ≡ option_map (λ looks. looks ++ (host, port) ∷ []) old) ⊎ (new ≡ None)

-- so far, and with other looks that are told
abbrev pub looked : Linking → Option (List (List ℕ × ℕ)) → Linking
looked s looks = record s { looks = looks }

-- what they hold after a look, by its answer, but for where it was made
abbrev pub after_accept : Linking → Result Come Failed → Linking
after_accept s (Ok (Conn n)) = record s { came = s.came ++ fresh ∷ []; script = worked s.script }
after_accept s (Ok NotYet) = record s { accept_waits = one_more s.accept_waits; script = waited s.script }
after_accept s (Ok Ended) = record s { script = worked s.script }
after_accept s (Err e) = record s { accept_faults = one_more s.accept_faults; script = failed s.script }

-- what they hold after a read of a connection that gave this, but for the script
abbrev pub after_step : Linking → ℕ → Step → Linking
after_step s conn (Bytes n) = record s { given = s.given ++ (conn, Came (take n (bytes_in (first_from conn s.left)))) ∷ []; left = taken_off n s.left }
after_step s conn NoneYet = one_wait s conn
after_step s conn AtEnd = record (shut s conn) { given = s.given ++ (conn, End) ∷ [] }

-- the script after it
abbrev pub script_after : Course → Step → Course
script_after c (Bytes n) = worked c
script_after c NoneYet = waited c
script_after c AtEnd = worked c

-- what they hold after a read of a connection, by its answer
abbrev pub after_read : Linking → ℕ → Result Step Failed → Linking
after_read s conn (Ok step) = record (after_step s conn step) { script = script_after s.script step }
after_read s conn (Err e) = record (one_fault s conn) { script = failed s.script }

-- where a call worked, the bytes of this piece stand at the front of the room, as many as there is room for
abbrev pub IsFilled : {T E : Type 0} → Result T E → Piece → List ℕ → List ℕ → Type 0
IsFilled result piece room into = OnOk result (into ≡ written_over (take (length room) (bytes_in piece)) room)
