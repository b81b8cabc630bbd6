-- What a line's summary shows, by where the line stands, what it was given before, what was refused in this turn, and at which ends parcels show.
use Rattle.std.specs.Prelude.{ℕ, ◌+◌, ◌==◌, ◌&&◌, ◌||◌, not, nat_le, nat_lt, Bool, true, false, List, [], ◌∷◌, ◌++◌, length, map, Option, Some, None, if◌then◌else◌}
use Rattle.std.specs.List.{list_any, list_all}
use Rattle.queue_files.specs.Kept.{Page}
use Rattle.history_book.specs.Links.{Listening}
use Rattle.history_book.specs.Sound.{Places}
use Rattle.history_book.specs.States.{is_among}
use Rattle.line_machine.specs.Ends.{Waiting, TakerView, taker_at}
use Rattle.line_machine.specs.Finds.{ends_served}
use Rattle.line_machine.specs.Views.{Batch, RowAt, InputView, LineView, batch_of, input_at}
use Rattle.line_machine.specs.declared.summary.Summary.{Summary}

-- ---- the least number of some

abbrev pub lesser : ℕ → Option ℕ → Option ℕ
lesser n None = Some n
lesser n (Some m) = if nat_le n m then Some n else Some m

-- the least that passes
abbrev pub least : (ℕ → Bool) → List ℕ → Option ℕ
least p [] = None
least p (n ∷ ns) = if p n then lesser n (least p ns) else least p ns

abbrev pub first_of : Option ℕ → Option ℕ → Option ℕ
first_of (Some n) other = Some n
first_of None other = other

-- the least of those behind the one that was given last, or, where there is none, of all
abbrev pub next_behind : Option ℕ → (ℕ → Bool) → List ℕ → Option ℕ
next_behind None p ns = least p ns
next_behind (Some last) p ns = first_of (least (λ n. nat_lt last n && p n) ns) (least p ns)

abbrev pub has_some : {X : Type 0} → Option X → Bool
has_some None = false
has_some (Some x) = true

abbrev pub is_empty : {X : Type 0} → List X → Bool
is_empty [] = true
is_empty (x ∷ xs) = false

-- ---- a turn

-- of links and inputs those that were given last
pub record Given : Type 0 where
  pub answer : Option ℕ
  pub assure : Option ℕ
  pub held : Option ℕ
  pub poll : Option ℕ

-- What was refused in a turn: whether no result was there to be taken, and no kit to read a batch; the batches that have to wait; the places of ends that gave no
-- answer; and the inputs that had none, or whose event found no room.
pub record Refused : Type 0 where
  pub take : Bool
  pub read : Bool
  pub deliveries : List ℕ
  pub answers : List ℕ
  pub accepts : List ℕ

abbrev pub none_refused : Refused
none_refused = record { take = false; read = false; deliveries = []; answers = []; accepts = [] }

-- ---- batches

-- a job of it is out
abbrev pub is_away : Option Batch → Bool
is_away None = false
is_away (Some b) = has_some b.kit && not (has_some b.verdicts)

abbrev pub is_home : Batch → Bool
is_home b = has_some b.verdicts && not (has_some b.kit)

-- it is home and has a delivery left
abbrev pub is_due : Option Batch → Bool
is_due None = false
is_due (Some b) = is_home b && not (is_empty b.left)

-- it is home, and all is delivered
abbrev pub is_finished : Option Batch → Bool
is_finished None = false
is_finished (Some b) = is_home b && is_empty b.left

-- some rows are unread, and enough for a whole batch
abbrev pub is_whole : ℕ → ℕ → Bool
is_whole size unread = nat_lt 0 unread && nat_le size unread

-- ---- ends of links

abbrev pub is_up_to : Option ℕ → ℕ → Bool
is_up_to None n = false
is_up_to (Some front) n = nat_le n front

-- it is wholly accepted, and its rows are up to the mark
abbrev pub is_settled : Option ℕ → Waiting → Bool
is_settled mark w = (length w.rows == length w.events) && list_all (is_up_to mark) w.rows

-- the oldest of these parcels can be answered
abbrev pub oldest_settled : Option ℕ → List Waiting → Bool
oldest_settled mark [] = false
oldest_settled mark (w ∷ rest) = has_some mark && is_settled mark w

-- an answer is due there: that the oldest parcel is assured; or, where the input was closed, that nobody listens
abbrev pub is_due_answer : Option ℕ → Option TakerView → Bool
is_due_answer mark None = false
is_due_answer mark (Some t) = oldest_settled mark t.waits || (not t.listens && (is_empty t.waits && not (is_empty t.lost)))

-- the end of this place is served
abbrev pub is_served : Option (List ℕ) → ℕ → Bool
is_served None place = true
is_served (Some places) place = is_among place places

-- an end of the input that is served has an event that isn't accepted
abbrev pub is_part : Waiting → Bool
is_part w = nat_lt (length w.rows) (length w.events)

abbrev pub has_event : Option (List ℕ) → ℕ → TakerView → Bool
has_event only n t = (t.input == n) && (is_served only t.place && list_any is_part t.waits)

-- an end of it that is served hasn't ended, or is among those at which a parcel shows: it has ended only until another one comes
abbrev pub goes_on : Option (List ℕ) → List ℕ → ℕ → TakerView → Bool
goes_on only showing n t = (t.input == n) && (is_served only t.place && (not t.ended || is_among t.place showing))

-- ---- pages

abbrev pub is_spent : Page → Bool
is_spent p = nat_le (p.least + length p.rows) p.from

module _ {places : Places} where
  -- ---- which there are

  abbrev pub batches_of : LineView places → List ℕ
  batches_of i = map (λ (b : Batch). b.number) i.batches

  abbrev pub inputs_of : LineView places → List ℕ
  inputs_of i = map (λ (v : InputView). v.number) i.inputs

  abbrev pub places_of : LineView places → List ℕ
  places_of i = map (λ (t : TakerView). t.place) i.takers

  -- once it was told to stop, a line goes on to deliver and to read only where it drains
  abbrev pub drains_on : LineView places → Bool
  drains_on i = not i.stopped || i.drains

  -- No batch is out, or fewer are than twice as many as the line has workers: then it may read a further one. So a delivery that waits doesn't let the whole queue come
  -- into memory.
  abbrev pub has_few_out : LineView places → Bool
  has_few_out i = is_empty i.batches || nat_lt (length i.batches) (i.workers + i.workers)

  -- how many rows the summary shows as unread: none where no batch can be read now
  abbrev pub unread_now : Refused → LineView places → ℕ
  unread_now r i = if drains_on i && (not r.read && has_few_out i) then length (i.kept ++ i.unread) else 0

module _ (listening : Listening) {places : Places} where
  -- ---- inputs

  -- one that listens on an address holds an event of a parcel, and another one that is open an event of its own, unless the line was told to stop
  abbrev pub holds_by : LineView places → InputView → Option (List ℕ) → Bool
  holds_by i v (Some address) = list_any (has_event (ends_served i) v.number) i.takers
  holds_by i v None = v.is_open && (not i.stopped && not (is_empty v.held))

  abbrev pub holds : LineView places → Option InputView → Bool
  holds i None = false
  holds i (Some v) = holds_by i v (listening.address v.statement)

  -- it is open, holds none, and isn't at its end, or a parcel shows at one of its ends
  abbrev pub polls_by : List ℕ → LineView places → InputView → Option (List ℕ) → Bool
  polls_by showing i v (Some address) = v.is_open && (not (list_any (has_event (ends_served i) v.number) i.takers) && list_any (goes_on (ends_served i) showing v.number) i.takers)
  polls_by showing i v None = v.is_open && (not i.stopped && (is_empty v.held && not v.ended))

  abbrev pub polls : List ℕ → LineView places → Option InputView → Bool
  polls showing i None = false
  polls showing i (Some v) = polls_by showing i v (listening.address v.statement)

  -- it is open, listens on no address, and has a row up to the mark of which it wasn't told
  abbrev pub wants_by : LineView places → InputView → Option (List ℕ) → Bool
  wants_by i v (Some address) = false
  wants_by i v None = v.is_open && list_any (λ (r : RowAt). is_up_to i.mark r.number) v.rows

  abbrev pub wants : LineView places → Option InputView → Bool
  wants i None = false
  wants i (Some v) = wants_by i v (listening.address v.statement)

  -- ---- the summary

  -- `showing` has the places of the ends at which a parcel shows: in the room of the end, or in its ring
  abbrev pub summary_of : Given → Refused → (showing : List ℕ) → LineView places → Summary
  summary_of g r showing i = record {
    take = has_some (least (λ n. is_away (batch_of n i.batches)) (batches_of i)) && not r.take;
    deliver = least (λ n. drains_on i && (is_due (batch_of n i.batches) && not (is_among n r.deliveries))) (batches_of i);
    finished = least (λ n. is_finished (batch_of n i.batches)) (batches_of i);
    answer = next_behind g.answer (λ n. is_served (ends_served i) n && (is_due_answer i.mark (taker_at n i.takers) && not (is_among n r.answers))) (places_of i);
    due = nat_le i.due_writes i.written || nat_le i.due_acknowledged i.acknowledged;
    assure = next_behind g.assure (λ n. wants i (input_at n i.inputs)) (inputs_of i);
    purge = list_any is_spent i.holds.queue.tails;
    held = next_behind g.held (λ n. holds i (input_at n i.inputs) && not (is_among n r.accepts)) (inputs_of i);
    unread = unread_now r i;
    whole_batch = is_whole i.size (unread_now r i);
    uncovered = i.uncovered;
    poll = next_behind g.poll (λ n. polls showing i (input_at n i.inputs) && not (is_among n r.accepts)) (inputs_of i);
  }

-- of links and inputs those that this summary gives are given then
abbrev pub given_now : Summary → Given → Given
given_now s g = record { answer = first_of s.answer g.answer; assure = first_of s.assure g.assure; held = first_of s.held g.held; poll = first_of s.poll g.poll }
