-- What a step of a line finds before it: an event that comes, rows and a kit for a batch, a batch that is out, a page that is spent, a configuration.
use Rattle.std.specs.Prelude.{◌≡◌, ◌≢◌, ◌⊎◌, ◌≤◌, ◌<◌, ◌+◌, ℕ, suc, ℤ, true, false, List, [], ◌∷◌, ◌++◌, length, map, Option, Some, None, Result, Ok, Err, if◌then◌else◌, ⊤}
use Rattle.std.specs.List.{sum}
use Rattle.event_tree.specs.Events.{Ev}
use Rattle.event_tree.specs.declared.lists.DeadPart.{DeadPart}
use Rattle.element_code.specs.declared.row.Origin.TheVariants.{Id}
use Rattle.settings_lines.specs.declared.settings.Policy.TheVariants.{Hold}
use Rattle.foreign_parts.specs.Delivering.{AreFates, taken as taken_by}
use Rattle.foreign_parts.specs.declared.filter.Verdict.{Verdict}
use Rattle.foreign_parts.specs.declared.output.Fate.{Fate}
use Rattle.foreign_parts.specs.declared.place.Place.{Place}
use Rattle.foreign_parts.specs.declared.place.Place.TheVariants as place
use Rattle.pipeline_bus.specs.Parcels.{is_last, ends_with_last}
use Rattle.pipeline_bus.specs.declared.parcel.Parcel.{Parcel}
use Rattle.event_flow.specs.Meaning.{Makes, Due, UsesExactly}
use Rattle.event_flow.specs.Meaning as due
use Rattle.dead_letters.specs.Letters.{size_of}
use Rattle.dead_letters.specs.Found.{Held}
use Rattle.dead_letters.specs.declared.letter.DeadLetter.{DeadLetter}
use Rattle.dead_letters.specs.declared.shedding.Shedding.{Shedding}
use Rattle.queue_page.specs.declared.row.PageRow.{PageRow}
use Rattle.queue_files.specs.Found.{Row}
use Rattle.queue_files.specs.Kept.{Page, Queue, IsQueue}
use Rattle.queue_files.specs.Steps.{marked, with_row, rolled, CanRoll, IsSpent, with_tails}
use Rattle.queue_core.specs.Taking.{batch_bytes}
use Rattle.queue_core.specs.Unread.{taken}
use Rattle.history_book.specs.Contents.{Bytes, Appended, part_of, bytes_at, is_stdout}
use Rattle.history_book.specs.Entries.{ParcelAt}
use Rattle.history_book.specs.Inputs.{Input, Renumbered, named_from}
use Rattle.history_book.specs.Legal.{rejections, FatesFit, HasDraws}
use Rattle.history_book.specs.Links.{Listening}
use Rattle.history_book.specs.Lists.{IsIn}
use Rattle.history_book.specs.Queues.{acknowledged_in, next_in, AcknowledgesMore}
use Rattle.history_book.specs.Sound.{Places}
use Rattle.history_book.specs.States.{Plan}
use Rattle.line_machine.specs.declared.calls.Accepted.{Accepted}
use Rattle.line_machine.specs.declared.calls.Accepted.TheVariants as accepted
use Rattle.line_machine.specs.declared.calls.LineFault.{LineFault}
use Rattle.line_machine.specs.declared.calls.LineFault.TheVariants as fault
use Rattle.line_machine.specs.Ends.{TakerView, SenderView, AreApart, IsUnused, Taken, Takes, HasNext, IsServed, IsPartlyAccepted, AreEnded}
use Rattle.line_machine.specs.Views.{Kit, Incoming, InputView, Batch, Given, LineView, inputs_of, input_at, batch_of, events_in}

-- a place whose deliveries need no answer: stdout, a file, or one that keeps nothing
abbrev pub IsPlain : Place → Type 0
IsPlain place.Stdout = ⊤
IsPlain (place.File path) = ⊤
IsPlain place.Discard = ⊤
IsPlain (place.Address address) = ⊥
IsPlain (place.Foreign number) = ⊥
IsPlain place.Dead = ⊥

-- ---- queues

-- the head page is full: all is recorded, and a new one begins
pub record Rolls (old new : Queue) : Type 0 where
  pub recorded : IsQueue (marked old)
  pub can : CanRoll (marked old)
  pub is : IsQueue (rolled (marked old))
  pub new_is : new ≡ rolled (marked old)

-- rows with these numbers are acknowledged, too, and no others
pub record Acknowledges (numbers : List ℕ) (old new : Queue) : Type 0 where
  pub more : AcknowledgesMore numbers old new
  pub all : (n : ℕ) → IsIn n numbers → IsIn n (acknowledged_in new.tails new.top)
  pub still : (n : ℕ) → IsIn n (acknowledged_in old.tails old.top) → IsIn n (acknowledged_in new.tails new.top)

-- the first page below the head all of whose rows are recorded as acknowledged
pub record HasSpent (q : Queue) : Type 0 where
  pub before : List Page
  pub page : Page
  pub behind : List Page
  pub tails : q.tails ≡ before ++ page ∷ behind
  pub spent : IsSpent page
  pub first : (p : Page) → IsIn p before → IsSpent p → ⊥
  pub is : IsQueue (with_tails (before ++ behind) q)

abbrev pub without_page : (q : Queue) → HasSpent q → Queue
without_page q h = with_tails (h.before ++ h.behind) q

-- ---- ends of links

-- parcels with events, which are the next from this number on
abbrev pub AreNextParcels : ℕ → List Parcel → Type 0
AreNextParcels n [] = ⊤
AreNextParcels n (p ∷ ps) = (is_last p ≡ false) × (p.number ≡ n) × AreNextParcels (suc n) ps

-- among these inputs the one of this number is open
abbrev pub IsOpenAmong : List Input → ℕ → Type 0
IsOpenAmong inputs n = (x : Input) × IsIn x inputs × (x.number ≡ n) × (x.is_open ≡ true)

-- An end, and what it is behind the adoption of a configuration with these inputs: the same, where its input is open; where that is closed, it listens no more, and the
-- parcels with events that lie in its ring are lost.
abbrev pub IsEndBehind : List Input → TakerView → TakerView → Type 0
IsEndBehind inputs t u =
    (IsOpenAmong inputs t.input × (u ≡ t))
    ⊎ ((IsOpenAmong inputs t.input → ⊥) × (t.listens ≡ false) × (u ≡ t))
    ⊎ ((IsOpenAmong inputs t.input → ⊥) × (t.listens ≡ true) × (lost : List Parcel) × AreNextParcels t.next lost × (u ≡ record t { listens = false; lost = lost }))

abbrev pub AreEndsBehind : List Input → List TakerView → List TakerView → Type 0
AreEndsBehind inputs [] new = new ≡ []
AreEndsBehind inputs (t ∷ ts) new = (u : TakerView) × (rest : List TakerView) × (new ≡ u ∷ rest) × IsEndBehind inputs t u × AreEndsBehind inputs ts rest

-- ends with places of their own, from this one on, through which nothing went yet
pub record AreNew (old new : List TakerView) (from to : ℕ) : Type 0 where
  pub unused : (t : TakerView) → IsIn t new → (t.taken ≡ []) × (t.given ≡ []) × (t.waits ≡ []) × (t.lost ≡ [])
  pub apart : AreApart (old ++ new)
  pub places : (t : TakerView) → IsIn t new → (from ≤ t.place) × (t.place < to)
  pub rise : from ≤ to

-- the end is one of an input among these that is open and listens on its address
pub record IsEndOf (listening : Listening) (inputs : List Input) (t : TakerView) : Type 0 where
  pub listens : t.listens ≡ true
  pub input : Input
  pub has : IsIn input inputs
  pub number_is : input.number ≡ t.input
  pub is_open : input.is_open ≡ true
  pub address_is : listening.address input.statement ≡ Some t.address

abbrev pub AreEndsOf : Listening → List Input → List TakerView → Type 0
AreEndsOf listening inputs ts = (t : TakerView) → IsIn t ts → IsEndOf listening inputs t

-- ends that send, through which nothing went yet
abbrev pub AreUnused : List SenderView → Type 0
AreUnused ss = (s : SenderView) → IsIn s ss → IsUnused s

-- ---- calls that fail

-- An accept writes no row, though it may hold more of its input then: there was an event, and the queue had no room or no number for it; the input failed; or there was no
-- memory.
abbrev pub WritesNone : ℕ → List Incoming → Result Accepted LineFault → Type 0
WritesNone n held (Ok accepted.Full) = held ≢ []
WritesNone n held (Err fault.NumbersSpent) = held ≢ []
WritesNone n held (Err (fault.Input input)) = input ≡ n
WritesNone n held (Err fault.Memory) = ⊤
WritesNone n held answer = ⊥

-- what the box of the next delivery took of it before that failed: nothing, or of its first events those that it didn't reject
abbrev pub BoxTook : List Due → List Given → Type 0
BoxTook (due.Events id (place.Foreign number) es ∷ rest) given =
    (given ≡ [])
    ⊎ ((front : List Ev) × (back : List Ev) × (fates : List Fate) × (es ≡ front ++ back) × AreFates fates front × (given ≡ record { box = number; events = taken_by fates front } ∷ []))
BoxTook left given = given ≡ []

-- what stdout took of it: a first part of its bytes
abbrev pub StdoutTook : Bytes → Batch → List Due → List ℕ → Type 0
StdoutTook bytes b left printed = (back : List ℕ) × (bytes_at bytes is_stdout b.plan.config left ≡ printed ++ back)

module _ {places : Places} where
  -- the input that the line has by this number
  pub record HasInput (i : LineView places) (n : ℕ) : Type 0 where
    pub input : InputView
    pub has : input_at n i.inputs ≡ Some input

  -- the ends from which parcels are taken: all, and once the line was told to stop those alone with which it goes on
  abbrev pub ends_served : LineView places → Option (List ℕ)
  ends_served i = if i.stopped then Some i.going else None

  -- ---- batches

  -- the batch is out, and not back yet
  pub record IsAway (i : LineView places) (n : ℕ) : Type 0 where
    pub batch : Batch
    pub has : batch_of n i.batches ≡ Some batch
    pub away : batch.verdicts ≡ None
    pub kit : Kit
    pub kit_is : batch.kit ≡ Some kit

  -- it is back, with this left to deliver
  pub record IsHome (i : LineView places) (n : ℕ) (left : List Due) : Type 0 where
    pub batch : Batch
    pub has : batch_of n i.batches ≡ Some batch
    pub verdicts : List Verdict
    pub back : batch.verdicts ≡ Some verdicts
    pub no_kit : batch.kit ≡ None
    pub left_is : batch.left ≡ left

  -- a kit is taken from those at home
  pub record TakesKit (i : LineView places) : Type 0 where
    pub kit : Kit
    pub front : List Kit
    pub back : List Kit
    pub at_home : i.kits ≡ front ++ kit ∷ back

  -- the rows that a batch gets: those of a batch that is kept, and else the first that are unread, as many as it may have
  pub record TakesRows (i : LineView places) : Type 0 where
    pub rows : List Row
    pub rest : List Row
    pub some : rows ≢ []
    pub parts : i.kept ++ i.unread ≡ rows ++ rest
    pub kept_first : i.kept ≢ [] → rows ≡ i.kept
    pub as_many : i.kept ≡ [] → rows ≡ taken batch_bytes i.size None i.unread

  -- Letters are appended, less what the policy sheds, each at a moment that the clock gave in the call.
  pub record AppendsNow (i : LineView places) (parts : List DeadPart) : Type 0 where
    pub shed : Shedding
    pub new : Held
    pub appends : Appended i.limits places.clock shed parts i.holds.dead new
    pub asked : List ℤ
    pub moments : (l : DeadLetter) → IsIn l appends.letters → IsIn l.moment asked
    pub of_clock : (t : ℤ) → IsIn t asked → IsIn t (places.clock i.holds.dead)

  -- Letters are held back: by the policy `hold` nothing is shed, and with them the limit is passed.
  pub record AreHeldBack (i : LineView places) (parts : List DeadPart) (f : LineFault) : Type 0 where
    pub letters : List DeadLetter
    pub parts_are : map part_of letters ≡ parts
    pub policy : i.limits.policy ≡ Hold
    pub over : i.limits.limit < sum (map length i.holds.dead.segments) + sum (map size_of letters)
    pub fault_is : f ≡ fault.DeadFull (sum (map length i.holds.dead.segments)) (sum (map size_of letters)) i.limits.limit

  -- why the next delivery of a batch fails so that the line takes no further call
  abbrev pub FailsSo : LineView places → Batch → List Due → LineFault → Type 0
  FailsSo i b [] f = f ≡ fault.Memory
  FailsSo i b (due.Letters parts ∷ rest) f = (f ≡ fault.Store) ⊎ AreHeldBack i parts f ⊎ (f ≡ fault.Memory)
  FailsSo i b (due.Events id place.Stdout es ∷ rest) f = (f ≡ fault.Output id) ⊎ (f ≡ fault.Memory)
  FailsSo i b (due.Events id (place.File path) es ∷ rest) f = (f ≡ fault.Store) ⊎ (f ≡ fault.Memory)
  FailsSo i b (due.Events id (place.Foreign number) es ∷ rest) f =
      (f ≡ fault.Output id) ⊎ ((fates : List Fate) × FatesFit (place.Foreign number) fates es × ((f ≡ fault.Store) ⊎ AreHeldBack i (rejections b.plan.config id fates es) f)) ⊎ (f ≡ fault.Memory)
  FailsSo i b (due.Events id (place.Address address) es ∷ rest) f = f ≡ fault.Memory
  FailsSo i b (due.Events id place.Discard es ∷ rest) f = f ≡ fault.Memory
  FailsSo i b (due.Events id place.Dead es ∷ rest) f = f ≡ fault.Memory

module _ (makes : Makes) where
  -- the filters of the batch's configuration use exactly these verdicts
  abbrev pub Uses : Batch → List Verdict → Type 0
  Uses b verdicts = UsesExactly makes b.plan.config b.plan.draws (events_in b.rows) verdicts

module _ (listening : Listening) {places : Places} where
  -- an input that listens on no address is open, and the line wasn't told to stop: its source is read
  pub record IsRead (i : LineView places) (v : InputView) : Type 0 where
    pub is_open : v.is_open ≡ true
    pub no_address : listening.address v.statement ≡ None
    pub running : i.stopped ≡ false

  -- Such an input holds an event, with what came in this call: the first is accepted next.
  pub record Comes (i : LineView places) (n : ℕ) : Type 0 where
    pub by : HasInput i n
    pub reads : IsRead i by.input
    pub came : List Incoming
    pub first : Incoming
    pub rest : List Incoming
    pub next : by.input.held ++ came ≡ first ∷ rest

  -- The row of an event that an input accepts: it has the next number, names the input, and has the event as the settings of that make it.
  pub record IsRowFor (i : LineView places) (v : InputView) (event : Ev) : Type 0 where
    pub before : Queue
    pub room : (before ≡ i.holds.queue) ⊎ Rolls i.holds.queue before
    pub row : PageRow
    pub is : IsQueue (with_row row before)
    pub number : row.number ≡ next_in before
    pub origin : row.origin ≡ Id v.id
    pub event_is : row.event ≡ listening.applies v.statement event

  -- An input that listens on an address took what lay in the rings, and has an event of a parcel that isn't wholly accepted.
  pub record Arrives (i : LineView places) (n : ℕ) : Type 0 where
    pub by : HasInput i n
    pub address : List ℕ
    pub listens : listening.address by.input.statement ≡ Some address
    pub taken : List Taken
    pub takers : List TakerView
    pub takes : Takes (ends_served i) n taken i.takers takers
    pub at : ParcelAt
    pub event : Ev
    pub next : HasNext (ends_served i) n at address event takers

  -- ---- the end of a line

  -- An open input is at its end: one that listens on an address holds no event, and a parcel without events came last at each of its ends; another one holds none and
  -- nothing comes any more, or the line was told to stop.
  abbrev pub IsAtEnd : LineView places → InputView → Type 0
  IsAtEnd i v =
      ((address : List ℕ) × (listening.address v.statement ≡ Some address) × (IsPartlyAccepted (ends_served i) v.number i.takers → ⊥) × AreEnded (ends_served i) v.number i.takers)
      ⊎ ((listening.address v.statement ≡ None) × ((i.stopped ≡ true) ⊎ ((v.ended ≡ true) × (v.held ≡ []))))

  -- Nothing comes from the line to others any more: its inputs are at their ends, its rows are acknowledged, and the parcels that it took are answered.
  pub record HasEnded (i : LineView places) : Type 0 where
    pub inputs : (v : InputView) → IsIn v i.inputs → v.is_open ≡ true → IsAtEnd i v
    pub batches : i.batches ≡ []
    pub unread : i.kept ++ i.unread ≡ []
    pub answered : (t : TakerView) → IsIn t i.takers → IsServed (ends_served i) t.place → (t.waits ≡ []) × (t.lost ≡ [])

  -- so a last parcel is due at each end that sends and hasn't sent one last
  abbrev pub IsLastDue : LineView places → SenderView → Type 0
  IsLastDue i s = HasEnded i × (ends_with_last s.sends.sent ≡ false)

  -- ---- a configuration

  -- Another configuration comes with the next generation and its own kits; its inputs are those that go on, new ones, and those that are closed.
  pub record Changes (i : LineView places) : Type 0 where
    pub plan : Plan
    pub kits : List Kit
    pub differs : plan.config ≢ i.plan.config
    pub generation : plan.generation ≡ i.plan.generation + 1
    pub draws : HasDraws plan.config plan.draws
    pub made_of : (k : Kit) → IsIn k kits → k.generation ≡ plan.generation
    pub inputs : List Input
    pub renumbered : Renumbered (length (inputs_of i.inputs)) (inputs_of i.inputs) (named_from 1 plan.config.inputs) inputs
    pub takers : List TakerView
    pub goes_on : AreEndsBehind inputs i.takers takers
    pub new_takers : List TakerView
    pub next_place : ℕ
    pub new : AreNew takers new_takers i.next_place next_place
    pub listen : AreEndsOf listening inputs new_takers
    pub new_senders : List SenderView
    pub unused : AreUnused new_senders
