-- The ends of links that a line has: what went through them since it was given them.
use Rattle.std.specs.Prelude.{◌≡◌, ◌≤◌, ◌<◌, ℕ, suc, ◌==◌, Bool, true, false, List, [], ◌∷◌, ◌++◌, length, drop, Option, Some, None, if◌then◌else◌, bytes_eq, ⊤}
use Rattle.event_tree.specs.Events.{Ev}
use Rattle.pipeline_bus.specs.Ends.{Sending}
use Rattle.pipeline_bus.specs.Parcels.{is_last, HasNextNumber}
use Rattle.pipeline_bus.specs.declared.parcel.Heard.{Heard}
use Rattle.pipeline_bus.specs.declared.parcel.Answer.{Answer}
use Rattle.pipeline_bus.specs.declared.parcel.Heard.TheVariants.{Assured, NotListening}
use Rattle.pipeline_bus.specs.declared.parcel.Parcel.{Parcel}
use Rattle.history_book.specs.Entries.{ParcelAt}
use Rattle.history_book.specs.Lists.{IsIn}

-- A parcel that was taken and isn't answered: its number, its events, and the numbers of the rows of the first of them.
pub record Waiting : Type 0 where
  pub number : ℕ
  pub events : List Ev
  pub rows : List ℕ

-- The end of a link that takes: its place among those that the line was given, the number of the input that it belongs to, the address, and whether that input listens
-- still; whether the parcel that came last is one without events; the parcels that were taken and the answers that were given since; the parcels that wait for an
-- answer; the number of the next parcel with events; and, where its input was closed, the parcels with events that lay in the ring then and aren't refused yet.
pub record TakerView : Type 0 where
  pub place : ℕ
  pub input : ℕ
  pub address : List ℕ
  pub listens : Bool
  pub ended : Bool
  pub taken : List Parcel
  pub given : List Answer
  pub waits : List Waiting
  pub next : ℕ
  pub lost : List Parcel

-- ---- takers

abbrev pub taker_at : ℕ → List TakerView → Option TakerView
taker_at place [] = None
taker_at place (t ∷ ts) = if place == t.place then Some t else taker_at place ts

abbrev pub change_taker : (TakerView → TakerView) → ℕ → List TakerView → List TakerView
change_taker f place [] = []
change_taker f place (t ∷ ts) = if place == t.place then f t ∷ ts else t ∷ change_taker f place ts

abbrev pub waiting_at : ℕ → List Waiting → Option Waiting
waiting_at number [] = None
waiting_at number (w ∷ ws) = if number == w.number then Some w else waiting_at number ws

abbrev pub change_waiting : (Waiting → Waiting) → ℕ → List Waiting → List Waiting
change_waiting f number [] = []
change_waiting f number (w ∷ ws) = if number == w.number then f w ∷ ws else w ∷ change_waiting f number ws

-- a parcel was taken: one with events waits for its answer
abbrev pub waits_for : Parcel → List Waiting
waits_for p = if is_last p then [] else record { number = p.number; events = p.events; rows = [] } ∷ []

abbrev pub took : Parcel → TakerView → TakerView
took p t = record t { taken = t.taken ++ p ∷ []; waits = t.waits ++ waits_for p; next = if is_last p then t.next else suc t.next; ended = is_last p }

-- a row was made of its next event
abbrev pub with_row_of : ℕ → Waiting → Waiting
with_row_of row w = record w { rows = w.rows ++ row ∷ [] }

abbrev pub row_made : ℕ → ℕ → TakerView → TakerView
row_made number row t = record t { waits = change_waiting (with_row_of row) number t.waits }

-- it was answered
abbrev pub assured : ℕ → List Waiting → TakerView → TakerView
assured number rest t = record t { waits = rest; given = t.given ++ record { number = number; answer = Assured } ∷ [] }

-- one that wasn't taken was refused, and these are left
abbrev pub refused : List Parcel → TakerView → TakerView
refused rest t = record t { given = t.given ++ record { number = t.next; answer = NotListening } ∷ []; next = suc t.next; lost = rest; ended = false }

abbrev pub without_taker : ℕ → List TakerView → List TakerView
without_taker place [] = []
without_taker place (t ∷ ts) = if place == t.place then ts else t ∷ without_taker place ts

-- no two have one place
abbrev pub AreApart : List TakerView → Type 0
AreApart [] = ⊤
AreApart (t ∷ ts) = ((u : TakerView) → IsIn u ts → u.place ≡ t.place → ⊥) × AreApart ts

-- the end of this place is served: all are, or these alone
abbrev pub IsServed : Option (List ℕ) → ℕ → Type 0
IsServed None place = ⊤
IsServed (Some places) place = IsIn place places

-- ---- what an accept takes from the rings of an input: at ends that are served while it listens, each parcel with events being the next

pub record Taken : Type 0 where
  pub place : ℕ
  pub parcel : Parcel

pub record MayTake (only : Option (List ℕ)) (input : ℕ) (x : Taken) (ts : List TakerView) : Type 0 where
  pub taker : TakerView
  pub has : taker_at x.place ts ≡ Some taker
  pub input_is : taker.input ≡ input
  pub listens : taker.listens ≡ true
  pub served : IsServed only x.place
  pub next : is_last x.parcel ≡ false → x.parcel.number ≡ taker.next

abbrev pub Takes : Option (List ℕ) → ℕ → List Taken → List TakerView → List TakerView → Type 0
Takes only input [] old new = new ≡ old
Takes only input (x ∷ xs) old new = MayTake only input x old × Takes only input xs (change_taker (took x.parcel) x.place old) new

-- the next event of a parcel that the input took, which isn't wholly accepted
pub record HasNext (only : Option (List ℕ)) (input : ℕ) (at : ParcelAt) (address : List ℕ) (event : Ev) (ts : List TakerView) : Type 0 where
  pub taker : TakerView
  pub has : taker_at at.place ts ≡ Some taker
  pub input_is : taker.input ≡ input
  pub served : IsServed only at.place
  pub address_is : taker.address ≡ address
  pub waiting : Waiting
  pub waits : waiting_at at.number taker.waits ≡ Some waiting
  pub rest : List Ev
  pub next : drop (length waiting.rows) waiting.events ≡ event ∷ rest

-- the numbers are at most this
abbrev pub AreUpTo : ℕ → List ℕ → Type 0
AreUpTo front [] = ⊤
AreUpTo front (n ∷ ns) = (n ≤ front) × AreUpTo front ns

-- an end of the input that is served has a parcel that isn't wholly accepted
pub record IsPartlyAccepted (only : Option (List ℕ)) (input : ℕ) (ts : List TakerView) : Type 0 where
  pub taker : TakerView
  pub has : IsIn taker ts
  pub input_is : taker.input ≡ input
  pub served : IsServed only taker.place
  pub waiting : Waiting
  pub waits : IsIn waiting taker.waits
  pub part : length waiting.rows < length waiting.events

-- at each end of the input that is served the parcel that came last is one without events
abbrev pub AreEnded : Option (List ℕ) → ℕ → List TakerView → Type 0
AreEnded only input ts = (t : TakerView) → IsIn t ts → t.input ≡ input → IsServed only t.place → t.ended ≡ true

-- The oldest parcel that waits is wholly accepted, and all its rows are settled.
pub record MayAssure (mark : Option ℕ) (t : TakerView) : Type 0 where
  pub front : ℕ
  pub marked : mark ≡ Some front
  pub oldest : Waiting
  pub rest : List Waiting
  pub waits : t.waits ≡ oldest ∷ rest
  pub whole : length oldest.rows ≡ length oldest.events
  pub settled : AreUpTo front oldest.rows

-- nobody listens there any more, no parcel that was taken waits, and the next in the ring is one that lay there when the input was closed
pub record MayRefuse (t : TakerView) : Type 0 where
  pub closed : t.listens ≡ false
  pub none : t.waits ≡ []
  pub parcel : Parcel
  pub rest : List Parcel
  pub lost : t.lost ≡ parcel ∷ rest
  pub number : parcel.number ≡ t.next

-- an end whose input was closed is done with: each parcel that was taken, or lay in the ring then, is answered
pub record IsFree (t : TakerView) : Type 0 where
  pub closed : t.listens ≡ false
  pub none : t.waits ≡ []
  pub none_lost : t.lost ≡ []

-- ---- ends that send

pub record SenderView : Type 0 where
  pub address : List ℕ
  pub sends : Sending

abbrev pub sender_at : List ℕ → List SenderView → Option SenderView
sender_at address [] = None
sender_at address (s ∷ ss) = if bytes_eq address s.address then Some s else sender_at address ss

abbrev pub change_sender : (SenderView → SenderView) → List ℕ → List SenderView → List SenderView
change_sender f address [] = []
change_sender f address (s ∷ ss) = if bytes_eq address s.address then f s ∷ ss else s ∷ change_sender f address ss

-- a parcel was sent, an answer was heard
abbrev pub with_sent : Parcel → SenderView → SenderView
with_sent p s = record s { sends = record s.sends { sent = s.sends.sent ++ p ∷ [] } }

abbrev pub with_heard : Answer → SenderView → SenderView
with_heard a s = record s { sends = record s.sends { heard = s.sends.heard ++ a ∷ [] } }

-- Events may be sent to an address in this parcel, which is the next of its link.
pub record MaySend (address : List ℕ) (p : Parcel) (ss : List SenderView) : Type 0 where
  pub sender : SenderView
  pub has : sender_at address ss ≡ Some sender
  pub address_is : p.address ≡ sender.address
  pub next : HasNextNumber sender.sends.sent p

-- nothing went through it yet
abbrev pub IsUnused : SenderView → Type 0
IsUnused s = (s.sends.sent ≡ []) × (s.sends.heard ≡ [])

-- what the sender of this address heard of the parcel of this number
pub record WasHeard (address : List ℕ) (number : ℕ) (h : Heard) (ss : List SenderView) : Type 0 where
  pub sender : SenderView
  pub has : sender_at address ss ≡ Some sender
  pub heard : IsIn (record { number = number; answer = h }) sender.sends.heard
