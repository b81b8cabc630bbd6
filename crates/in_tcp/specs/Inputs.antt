-- An input of TCP connections: what it holds, what a poll does, and how that stands to all that came.
use Rattle.std.specs.Prelude.{◌≡◌, ◌≤◌, ◌⊎◌, ℕ, ℤ, Bool, false, not, ◌&&◌, Option, Result, Ok, Err, IsErr, IfNone, IfOk, List, [], ◌++◌, length, map, if◌then◌else◌}
use Rattle.std.specs.List.{AllByRecursion}
use Rattle.std.specs.Option.{option_to_list}
use Rattle.std.specs.declared.alloc.AllocError.{AllocError}
use Rattle.io_traits.specs.Counts.{HasCause}
use Rattle.io_traits.specs.declared.faults.Failed.{Failed}
use Rattle.io_traits.specs.declared.links.Come.{Come}
use Rattle.io_traits.specs.declared.links.Links.{Ghosts as LinksWords}
use Rattle.in_lines.specs.declared.codec.Codec.{Codec}
use Rattle.event_tree.specs.Events.{Ev}
use Rattle.in_lines.specs.Decoding.{event_by}
use Rattle.in_lines.specs.Polls.{Received}
use Rattle.in_lines.specs.Sources.{Look, is_source_ended, left_of, made_from, of_source, received_beside}
use Rattle.in_lines.specs.declared.poll_outcome.Got.{Got}
use Rattle.in_lines.specs.declared.poll_outcome.Got.TheVariants.{Lines}
use Rattle.in_lines.specs.declared.poll_outcome.Got.TheVariants.{NotYet as NoLine, End as AtEnd}
use Rattle.in_lines.specs.declared.poll_outcome.PollFault.{PollFault}
use Rattle.in_lines.specs.declared.poll_outcome.PollFault.TheVariants.{Fault, Memory}
use Rattle.in_tcp.specs.Asks.{Answered, Asked, Full, HasRoom, Looks, NoRoom, came_in, is_over, most_open}
use Rattle.in_tcp.specs.Held.{lefts_in, lines_in}
use Rattle.in_tcp.specs.Lines.{Part, line_limit}
use Rattle.in_tcp.specs.Reads.{AllCame, AreRead, ReadOf, Rising, left_open, looks_by, numbers}
use Rattle.in_tcp.specs.Took.{is_none}

-- ---- what it holds

-- where it listens, how it reads lines, the connections that are open, what is left of connections, and the pieces that came and are not cut into lines yet
pub record Tcp : Type 0 where
  pub host : List ℕ
  pub port : ℕ
  pub codec : Codec
  pub connections : List ℕ
  pub parts : List Part
  pub looks : List Look

-- the lines that it holds, each with the number of its connection and the moment of the poll that made it whole
abbrev pub lines_of : Tcp → List (ℕ × Received)
lines_of t = lines_in t.parts t.looks

-- what is left of each connection behind its last whole line
abbrev pub lefts_of : Tcp → ℕ → List ℕ
lefts_of t = lefts_in t.parts t.looks

-- where it listens and how it reads lines stays
pub record StaysSet (old new : Tcp) : Type 0 where
  pub host : new.host ≡ old.host
  pub port : new.port ≡ old.port
  pub codec : new.codec ≡ old.codec

-- ---- a poll

-- What it found: lines, where it holds some; the end, where no more connections will come, none is open, and none is held; else nothing yet.
abbrev pub got_in : Bool → Bool → Bool → Got
got_in held over none = if held then Lines else (if over && none then AtEnd else NoLine)

abbrev pub got_by : Bool → Tcp → Got
got_by over t = got_in (not (is_none (lines_of t))) over (is_none t.connections)

-- the same, by whether a line is held or memory ran out
abbrev pub poll_answer : Result Bool AllocError → Bool → Bool → Result Got PollFault
poll_answer (Ok held) over none = Ok (got_in held over none)
poll_answer (Err e) over none = Err Memory

-- the answer of a poll, by that of its look: a look that failed is a fault, and nothing else is done
abbrev pub ReadAnswer : Asked → List ℕ → Tcp → Result Got PollFault → Type 0
ReadAnswer asked unread new result = ((result ≡ Ok (got_by (is_over asked) new)) × (unread ≡ [])) ⊎ (result ≡ Err Memory)

abbrev pub ComeAnswer : Result Come Failed → List ReadOf → List ℕ → Tcp → Tcp → Result Got PollFault → Type 0
ComeAnswer (Ok c) reads unread old new result = ReadAnswer (Answered (Ok c)) unread new result
ComeAnswer (Err e) reads unread old new result = (result ≡ Err Fault) × (reads ≡ []) × (new ≡ old)

abbrev pub Answers : Asked → List ReadOf → List ℕ → Tcp → Tcp → Result Got PollFault → Type 0
Answers Full reads unread old new result = ReadAnswer Full unread new result
Answers (Answered r) reads unread old new result = ComeAnswer r reads unread old new result
Answers NoRoom reads unread old new result = (result ≡ Err Memory) × (reads ≡ []) × (new ≡ old)

-- ---- all that came

-- An input that met these looks, and gave these lines, so many connections having come: the lines of all that came are those that it gave and those that it holds, and no open
-- connection met its end.
pub record Stands (looks : List Look) (given : List (ℕ × Received)) (came : ℕ) (t : Tcp) : Type 0 where
  pub lines : received_beside line_limit looks ≡ given ++ lines_of t
  pub lefts : (n : ℕ) → left_of line_limit n looks ≡ lefts_of t n
  pub not_ended : AllByRecursion (λ n. is_source_ended n looks ≡ false) t.connections
  pub none_later : (n : ℕ) → came ≤ n → of_source n looks ≡ []

module _ {L : Type 0} (links : LinksWords L) where
  -- A poll at a moment: a look for a connection, and then one read of each that is open, in their order; but for the last of them where memory ran out.
  pub record WasPolled (moment : ℤ) (old new : Tcp) (links_old links_new : L) (result : Result Got PollFault) : Type 0 where
    pub asked : Asked
    pub reads : List ReadOf
    pub unread : List ℕ
    pub room : HasRoom asked (length old.connections)
    pub looked : Looks links old.host old.port asked links_old links_new
    pub order : old.connections ++ came_in asked ≡ numbers reads ++ unread
    pub read : AreRead links links_old links_new reads
    -- those stay open whose read found neither an end nor a fault
    pub connections : new.connections ≡ left_open reads ++ unread
    -- the lines that its reads made whole stand behind those that were held
    pub lines : lines_of new ≡ lines_of old ++ made_from line_limit (lefts_of old) (looks_by moment reads)
    pub stays : StaysSet old new
    pub answer : Answers asked reads unread old new result
    pub cause : HasCause (links.accept_faults links_old) (links.accept_faults links_new) (result ≡ Err Fault)
    -- the connections that are open came, each once, and are no more than may be
    pub came : AllCame (links.came links_new) new.connections
    pub rising : Rising new.connections
    pub most : length new.connections ≤ most_open
    -- all that came is given or held
    pub stands : (looks : List Look) (given : List (ℕ × Received)) → Stands looks given (links.came links_old) old → Stands (looks ++ looks_by moment reads) given (links.came links_new) new

-- ---- a line

-- The next line was given as an event, by the codec; none, where none is held, or where memory ran out.
pub record GaveNext (old new : Tcp) (result : Result (Option Ev) AllocError) : Type 0 where
  pub given : List (ℕ × Received)
  pub lines : lines_of old ≡ given ++ lines_of new
  pub events : IfOk result (λ event. option_to_list event ≡ map (λ r. event_by old.codec r.1) given)
  pub none : IfOk result (λ event. IfNone event (lines_of old ≡ []))
  pub err : IsErr result → given ≡ []
  pub connections : new.connections ≡ old.connections
  pub stays : StaysSet old new
  pub stands : (looks : List Look) (before : List (ℕ × Received)) (came : ℕ) → Stands looks before came old → Stands looks (before ++ given) came new
