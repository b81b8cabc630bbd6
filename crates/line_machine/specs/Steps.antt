-- What a line's calls may do: each step with what it finds, and what it makes of the line. There is no step for an answer that can't come. A call makes one step; the
-- delivery of a batch to an address may make several, as a parcel goes and its answer comes.
use Rattle.std.specs.Prelude.{◌≡◌, ◌≢◌, ◌⊎◌, ◌<◌, ℕ, Bool, ◌+◌, true, false, List, [], ◌∷◌, ◌++◌, length, Some, None, Result, ⊤}
use Rattle.event_tree.specs.Events.{Ev}
use Rattle.event_tree.specs.declared.lists.DeadPart.{DeadPart}
use Rattle.foreign_parts.specs.declared.filter.Verdict.{Verdict}
use Rattle.foreign_parts.specs.declared.output.Fate.{Fate}
use Rattle.foreign_parts.specs.declared.place.Place.{Place}
use Rattle.foreign_parts.specs.declared.place.Place.TheVariants as place
use Rattle.pipeline_bus.specs.Parcels.{is_last, with_events, IsInTurn}
use Rattle.pipeline_bus.specs.declared.parcel.Answer.{Answer}
use Rattle.pipeline_bus.specs.declared.parcel.Heard.TheVariants.{Assured, NotListening}
use Rattle.pipeline_bus.specs.declared.parcel.Parcel.{Parcel}
use Rattle.event_flow.specs.Meaning.{Makes, Due}
use Rattle.event_flow.specs.Meaning as due
use Rattle.queue_files.specs.Kept.{Queue, IsQueue}
use Rattle.queue_files.specs.Steps.{marked}
use Rattle.history_book.specs.Contents.{Bytes}
use Rattle.history_book.specs.Legal.{rejections, FatesFit}
use Rattle.history_book.specs.Links.{Listening}
use Rattle.history_book.specs.Queues.{next_in}
use Rattle.history_book.specs.Sound.{Places}
use Rattle.history_book.specs.States.{numbers_found}
use Rattle.line_machine.specs.declared.calls.Accepted.{Accepted}
use Rattle.line_machine.specs.declared.calls.Call.{Call}
use Rattle.line_machine.specs.declared.calls.LineFault.{LineFault}
use Rattle.line_machine.specs.Effects.{Effect, quiet, nothing, in_doubt, holds_more, ended_now, in_parcel, new_batch, reading, working, collecting, losing, telling, giving, boxing, rejecting, hearing, failing, acknowledging, marking, assuring, failing_to_assure, purging, adopting, accepting_line, accepting_parcel}
use Rattle.line_machine.specs.Ends.{TakerView, SenderView, Taken, Takes, MayAssure, MayRefuse, IsFree, without_taker, taker_at, change_taker, assured, refused, sender_at, change_sender, with_sent, with_heard, MaySend, WasHeard}
use Rattle.line_machine.specs.Finds.{IsPlain, Acknowledges, HasSpent, AreNew, AreEndsOf, AreUnused, HasInput, ends_served, IsAway, IsHome, TakesKit, TakesRows, AppendsNow, FailsSo, WritesNone, BoxTook, StdoutTook, Uses, IsRead, Comes, IsRowFor, Arrives, IsLastDue, Changes}
use Rattle.line_machine.specs.Unchanged.{LeavesAll, OnlyFails}
use Rattle.line_machine.specs.Views.{Incoming, Given, LineView, inputs_of, change_input, change_batch}

module _ (makes : Makes) (listening : Listening) (bytes : Bytes) {places : Places} where
  pub data Step (i : LineView places) : Type 0 where
    -- accept; where the store fails, it is in doubt whether the row is there
    Accepts : (n : ℕ) (c : Comes listening i n) → IsRowFor listening i c.by.input c.first.event → (doubt : Bool) → Step i
    Accepts_parcel : (n : ℕ) (a : Arrives listening i n) → IsRowFor listening i a.by.input a.event → (doubt : Bool) → Step i
    Takes_alone : (n : ℕ) (h : HasInput i n) (address : List ℕ) → listening.address h.input.statement ≡ Some address → (taken : List Taken) (takers : List TakerView)
        → Takes (ends_served i) n taken i.takers takers → Step i
    Holds_more : (n : ℕ) (h : HasInput i n) → IsRead listening i h.input → (came : List Incoming) (answer : Result Accepted LineFault) → WritesNone n (h.input.held ++ came) answer → Step i
    Is_at_its_end : (n : ℕ) (h : HasInput i n) → h.input.is_open ≡ true → listening.address h.input.statement ≡ None → (h.input.held ≡ []) ⊎ (i.stopped ≡ true) → Step i
    -- read
    Reads : TakesRows i → TakesKit i → Step i
    Works : (t : TakesRows i) → TakesKit i → (verdicts : List Verdict) → Uses makes (new_batch i t.rows None) verdicts → Step i
    Keeps_a_batch : TakesRows i → Step i
    -- collect
    Collects : (n : ℕ) (a : IsAway i n) (verdicts : List Verdict) → Uses makes a.batch verdicts → Step i
    Loses_a_result : (n : ℕ) → IsAway i n → Step i
    -- deliver
    Tells : (n : ℕ) (parts : List DeadPart) (rest : List Due) → IsHome i n (due.Letters parts ∷ rest) → AppendsNow i parts → Step i
    Gives : (n : ℕ) (id : List ℕ) (at : Place) (events : List Ev) (rest : List Due) → IsHome i n (due.Events id at events ∷ rest) → IsPlain at → Step i
    Is_taken : (n : ℕ) (id : List ℕ) (number : ℕ) (events : List Ev) (rest : List Due) (h : IsHome i n (due.Events id (place.Foreign number) events ∷ rest)) (fates : List Fate)
        → FatesFit (place.Foreign number) fates events → rejections h.batch.plan.config id fates events ≡ [] → Step i
    Is_rejected : (n : ℕ) (id : List ℕ) (number : ℕ) (events : List Ev) (rest : List Due) (h : IsHome i n (due.Events id (place.Foreign number) events ∷ rest)) (fates : List Fate)
        → FatesFit (place.Foreign number) fates events → rejections h.batch.plan.config id fates events ≢ [] → AppendsNow i (rejections h.batch.plan.config id fates events) → Step i
    Sends : (n : ℕ) (id address : List ℕ) (events : List Ev) (rest : List Due) (h : IsHome i n (due.Events id (place.Address address) events ∷ rest)) → h.batch.parcel ≡ None
        → (p : Parcel) → p.events ≡ events → is_last p ≡ false → MaySend address p i.senders → Step i
    Hears : (address : List ℕ) (a : Answer) (s : SenderView) → sender_at address i.senders ≡ Some s → IsInTurn s.sends.heard a → length s.sends.heard < with_events s.sends.sent → Step i
    Is_heard : (n : ℕ) (id address : List ℕ) (events : List Ev) (rest : List Due) (h : IsHome i n (due.Events id (place.Address address) events ∷ rest)) (number : ℕ)
        → h.batch.parcel ≡ Some number → WasHeard address number Assured i.senders → Step i
    Is_not_heard : (n : ℕ) (id address : List ℕ) (events : List Ev) (rest : List Due) (h : IsHome i n (due.Events id (place.Address address) events ∷ rest)) (number : ℕ)
        → h.batch.parcel ≡ Some number → WasHeard address number NotListening i.senders → Step i
    Fails_to_deliver : (n : ℕ) (left : List Due) (h : IsHome i n left) (f : LineFault) → FailsSo i h.batch left f → (printed : List ℕ) → StdoutTook bytes h.batch left printed
        → (given : List Given) → BoxTook left given → Step i
    -- acknowledge, mark, assure, purge
    Acknowledges_it : (n : ℕ) (h : IsHome i n []) (queue : Queue) → Acknowledges (numbers_found h.batch.rows) i.holds.queue queue → Step i
    Marks : (front : ℕ) → front + 1 ≡ next_in i.holds.queue → IsQueue (marked i.holds.queue) → Step i
    Assures : (n front : ℕ) → HasInput i n → i.mark ≡ Some front → Step i
    Fails_to_assure : (n front : ℕ) → HasInput i n → i.mark ≡ Some front → Step i
    Purges : HasSpent i.holds.queue → Step i
    -- answer a parcel, and send a last one
    Answers : (place : ℕ) (t : TakerView) → taker_at place i.takers ≡ Some t → MayAssure i.mark t → Step i
    Refuses : (place : ℕ) (t : TakerView) → taker_at place i.takers ≡ Some t → MayRefuse t → Step i
    Sends_last : (address : List ℕ) (p : Parcel) → is_last p ≡ true → (may : MaySend address p i.senders) → IsLastDue listening i may.sender → Step i
    -- adopt, and further ends
    Adopts : Changes listening i → Step i
    Connects : (takers : List TakerView) (next_place : ℕ) → AreNew i.takers takers i.next_place next_place → AreEndsOf listening (inputs_of i.inputs) takers → (senders : List SenderView)
        → AreUnused senders → Step i
    Releases : (place : ℕ) (t : TakerView) → taker_at place i.takers ≡ Some t → IsFree t → Step i
    -- stop
    Stops : (drains : Bool) → Step i
    Goes_on_with : (place : ℕ) (t : TakerView) → taker_at place i.takers ≡ Some t → Step i
    -- any call whose answer leaves all as it was, and any that only fails
    Leaves_all : (x : Call) → LeavesAll listening i x → Step i
    Only_fails : (x : Call) → OnlyFails listening i x → Step i

  -- what the step makes of the line
  abbrev pub effect : (i : LineView places) → Step i → Effect places
  effect i (Accepts n c r doubt) = in_doubt doubt i (accepting_line listening i n c r)
  effect i (Accepts_parcel n a r doubt) = in_doubt doubt i (accepting_parcel listening i n a r)
  effect i (Takes_alone n h address listens taken takers takes) = quiet i (record i { takers = takers })
  effect i (Holds_more n h reads came answer none) = holds_more i n h came
  effect i (Is_at_its_end n h opens lines none) = quiet i (record i { inputs = change_input ended_now n i.inputs })
  effect i (Reads t k) = reading i t k
  effect i (Works t k verdicts uses) = working makes i t verdicts
  effect i (Keeps_a_batch t) = quiet i (record i { kept = t.rows; unread = t.rest })
  effect i (Collects n a verdicts uses) = collecting makes i n a verdicts
  effect i (Loses_a_result n a) = losing i n a
  effect i (Tells n parts rest h a) = telling i n parts rest a
  effect i (Gives n id at events rest h plain) = giving bytes i n h.batch at events (due.Events id at events ∷ rest) rest
  effect i (Is_taken n id number events rest h fates are none) = boxing i n number events fates rest
  effect i (Is_rejected n id number events rest h fates are some a) = rejecting i n number events fates rest (rejections h.batch.plan.config id fates events) a
  effect i (Sends n id address events rest h none p is some may) =
      quiet i (record i { senders = change_sender (with_sent p) address i.senders; batches = change_batch (in_parcel (Some p.number)) n i.batches })
  effect i (Hears address a s has turn waits) = quiet i (record i { senders = change_sender (with_heard a) address i.senders })
  effect i (Is_heard n id address events rest h number is was) = hearing i n address events rest
  effect i (Is_not_heard n id address events rest h number is was) = quiet i (record i { batches = change_batch (in_parcel None) n i.batches })
  effect i (Fails_to_deliver n left h f is printed out given took) = failing i printed given
  effect i (Acknowledges_it n h queue a) = acknowledging i n queue (length h.batch.rows)
  effect i (Marks front last is) = marking i front
  effect i (Assures n front h is) = assuring i n h front
  effect i (Fails_to_assure n front h is) = failing_to_assure i n h front
  effect i (Purges h) = purging i h
  effect i (Answers place t has may) = quiet i (record i { takers = change_taker (assured may.oldest.number may.rest) place i.takers })
  effect i (Refuses place t has may) = quiet i (record i { takers = change_taker (refused may.rest) place i.takers })
  effect i (Sends_last address p last may is) = quiet i (record i { senders = change_sender (with_sent p) address i.senders })
  effect i (Adopts c) = adopting listening i c
  effect i (Connects takers next_place are listen senders unused) = quiet i (record i { takers = i.takers ++ takers; next_place = next_place; senders = i.senders ++ senders })
  effect i (Releases place t has free) = quiet i (record i { takers = without_taker place i.takers })
  effect i (Stops drains) = quiet i (record i { stopped = true; drains = drains })
  effect i (Goes_on_with place t has) = quiet i (record i { going = place ∷ i.going })
  effect i (Leaves_all x leaves) = nothing i
  effect i (Only_fails x fails) = nothing i

  -- the line takes further calls behind it
  abbrev pub GoesOn : (i : LineView places) → Step i → Type 0
  GoesOn i (Accepts n c r true) = ⊥
  GoesOn i (Accepts_parcel n a r true) = ⊥
  GoesOn i (Fails_to_deliver n left h f is printed out given took) = ⊥
  GoesOn i (Fails_to_assure n front h is) = ⊥
  GoesOn i (Only_fails x fails) = ⊥
  GoesOn i s = ⊤
