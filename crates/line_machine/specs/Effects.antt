-- What a step makes of a line, and what leaves it.
use Rattle.std.specs.Prelude.{ℕ, ℤ, zero, suc, ◌+◌, ◌==◌, ◌||◌, nat_lt, not, Bool, true, false, List, [], ◌∷◌, ◌++◌, map, Option, Some, None, bytes_eq, if◌then◌else◌}
use Rattle.std.specs.List.{filter, list_any}
use Rattle.event_tree.specs.Events.{Ev}
use Rattle.event_tree.specs.declared.lists.DeadPart.{DeadPart}
use Rattle.config_tree.specs.declared.tree.Config.{Config}
use Rattle.io_traits.specs.Images.{Image}
use Rattle.foreign_parts.specs.Delivering.{taken}
use Rattle.foreign_parts.specs.declared.filter.Verdict.{Verdict}
use Rattle.foreign_parts.specs.declared.output.Fate.{Fate}
use Rattle.foreign_parts.specs.declared.place.Place.{Place}
use Rattle.foreign_parts.specs.declared.place.Place.TheVariants as place
use Rattle.event_flow.specs.Meaning.{Makes, Due}
use Rattle.event_flow.specs.Meaning as due
use Rattle.dead_letters.specs.Appends.{kept_from}
use Rattle.dead_letters.specs.Found.{Held}
use Rattle.dead_letters.specs.declared.shedding.Shedding.{Shedding}
use Rattle.queue_page.specs.declared.row.PageRow.{PageRow}
use Rattle.queue_files.specs.Found.{Row, row_of}
use Rattle.queue_files.specs.Kept.{Queue}
use Rattle.queue_files.specs.Steps.{marked, with_row}
use Rattle.history_book.specs.Contents.{Bytes, bytes_at, is_file, is_stdout}
use Rattle.history_book.specs.Entries.{Entry, ParcelAt, Accept, Mark, Assure, Read, Back, Shed, Deliver, Letters, Ack, Purge, Adopt}
use Rattle.history_book.specs.Holdings.{Holdings, StopLeaves}
use Rattle.history_book.specs.Inputs.{Input}
use Rattle.history_book.specs.Links.{Listening}
use Rattle.history_book.specs.Sound.{Places}
use Rattle.history_book.specs.States.{Plan, numbers_found}
use Rattle.line_machine.specs.Ends.{TakerView, change_taker, row_made}
use Rattle.line_machine.specs.Finds.{HasInput, Comes, IsAway, TakesKit, TakesRows, AppendsNow, Changes, HasSpent, without_page, IsRowFor, Arrives}
use Rattle.line_machine.specs.Views.{Kit, Box, FileAt, Incoming, RowAt, Given, InputView, Batch, LineView, input_at, change_input, change_batch, without_batch, events_in}

-- events that came to an input, by its number
pub record Came : Type 0 where
  pub input : ℕ
  pub events : List Incoming

-- The line behind the step; what it told; what its places hold once that is
-- so; the events that came to an input; what was given to stdout, and to boxes; the places of watched files that were recorded; the kits, and the boxes of
-- outputs, that were closed; and what the clock gave for letters that were appended.
pub record Effect (places : Places) : Type 0 where
  pub line : LineView places
  pub told : List Entry
  pub behind : Holdings places
  pub came : List Came
  pub printed : List ℕ
  pub given : List Given
  pub recorded : List FileAt
  pub closed : List Kit
  pub closed_boxes : List Box
  pub asked : List ℤ

-- ---- parts of a line

-- what an input holds
abbrev pub held_now : List Incoming → InputView → InputView
held_now held v = record v { held = held }

-- an event of it was accepted as this row, and these are left
abbrev pub accepted_now : List Incoming → RowAt → InputView → InputView
accepted_now rest r v = record v { held = rest; rows = v.rows ++ r ∷ [] }

abbrev pub ended_now : InputView → InputView
ended_now v = record v { ended = true }

-- of the rows up to this number it was told
abbrev pub rows_above : ℕ → List RowAt → List RowAt
rows_above front rows = filter (λ (r : RowAt). nat_lt front r.number) rows

abbrev pub rows_up_to : ℕ → List RowAt → List RowAt
rows_up_to front rows = filter (λ (r : RowAt). not (nat_lt front r.number)) rows

abbrev pub assured_now : ℕ → InputView → InputView
assured_now front v = record v { rows = rows_above front v.rows }

-- of each file the place behind the last of these rows
abbrev pub is_of_file : List ℕ → Option FileAt → Bool
is_of_file path None = false
is_of_file path (Some f) = bytes_eq path f.path

abbrev pub unless_later : List RowAt → Option FileAt → List FileAt
unless_later later None = []
unless_later later (Some f) = if list_any (λ (r : RowAt). is_of_file f.path r.at) later then [] else f ∷ []

abbrev pub last_places : List RowAt → List FileAt
last_places [] = []
last_places (r ∷ rows) = unless_later rows r.at ++ last_places rows

-- of a batch that is back one delivery less is left
abbrev pub one_less : List Due → Batch → Batch
one_less rest b = record b { left = rest; parcel = None }

abbrev pub in_parcel : Option ℕ → Batch → Batch
in_parcel parcel b = record b { parcel = parcel }

abbrev pub without_kit : Batch → Batch
without_kit b = record b { kit = None }

-- the kit joins those at home; one of an older generation is closed instead
abbrev pub home_with : ℕ → Kit → List Kit → List Kit
home_with generation kit kits = if kit.generation == generation then kits ++ kit ∷ [] else kits

abbrev pub closed_of : ℕ → Kit → List Kit
closed_of generation kit = if kit.generation == generation then [] else kit ∷ []

-- the boxes to which the outputs of a configuration deliver
abbrev pub boxes_of : Plan → List Box
boxes_of plan = map (λ (d : List ℕ × ℕ). record { generation = plan.generation; number = d.1 }) plan.draws

-- a box is wanted while its generation is the newest, or a batch of it is out
abbrev pub is_wanted : ℕ → List Batch → Box → Bool
is_wanted newest batches x = (x.generation == newest) || list_any (λ (b : Batch). x.generation == b.plan.generation) batches

abbrev pub wanted : ℕ → List Batch → List Box → List Box
wanted newest batches boxes = filter (is_wanted newest batches) boxes

abbrev pub unwanted : ℕ → List Batch → List Box → List Box
unwanted newest batches boxes = filter (λ x. not (is_wanted newest batches x)) boxes

-- an input that begins, and one that goes on: it keeps what it holds, unless it is closed
abbrev pub begun : Input → InputView
begun x = record { number = x.number; statement = x.statement; id = x.id; is_open = x.is_open; held = []; ended = false; rows = [] }

abbrev pub gone_on : Input → InputView → InputView
gone_on x v = record {
  number = x.number;
  statement = x.statement;
  id = x.id;
  is_open = x.is_open;
  held = if x.is_open then v.held else [];
  ended = v.ended;
  rows = if x.is_open then v.rows else [];
}

abbrev pub view_of : Input → Option InputView → InputView
view_of x None = begun x
view_of x (Some v) = gone_on x v

abbrev pub carried : List InputView → Input → InputView
carried before x = view_of x (input_at x.number before)

-- ---- letters

-- what is shed is told where anything is
abbrev pub shed_told : ℕ → ℕ → List ℕ → List Entry
shed_told batch zero [] = []
shed_told batch zero (n ∷ newer) = Shed batch zero (n ∷ newer) ∷ []
shed_told batch (suc older) newer = Shed batch (suc older) newer ∷ []

-- letters that are told, less those that are shed
abbrev pub letters_told : ℕ → Shedding → List DeadPart → List Entry
letters_told batch shed parts = shed_told batch shed.older shed.newer ++ Letters batch (kept_from shed.newer 0 parts) ∷ []

-- what a box took of a delivery
abbrev pub box_took : ℕ → List Ev → List Fate → List Given
box_took number events fates = record { box = number; events = taken fates events } ∷ []

module _ {places : Places} where
  abbrev pub with_queue : Queue → Holdings places → Holdings places
  with_queue q h = record h { queue = q }

  abbrev pub with_dead : Held → Holdings places → Holdings places
  with_dead dead h = record h { dead = dead }

  -- a delivery of events to files: the bytes that it adds to each
  abbrev pub with_bytes : Bytes → Config → List Due → Holdings places → Holdings places
  with_bytes bytes config left h = record h { content = λ file m. h.content file m ++ bytes_at bytes (is_file file.path) config left }

  -- The line alone may be another: nothing is told, and its places hold what they held.
  abbrev pub quiet : LineView places → LineView places → Effect places
  quiet i now = record {
    line = now;
    told = [];
    behind = i.holds;
    came = [];
    printed = [];
    given = [];
    recorded = [];
    closed = [];
    closed_boxes = [];
    asked = [];
  }

  abbrev pub nothing : LineView places → Effect places
  nothing i = quiet i i

  -- its places hold something else, and this is told of it
  abbrev pub tells : LineView places → LineView places → List Entry → Effect places
  tells i now told = record (quiet i now) { told = told; behind = now.holds }

  -- where it is in doubt whether it is so, the line is said to be as it was, and takes no further call
  abbrev pub in_doubt : Bool → LineView places → Effect places → Effect places
  in_doubt doubt i e = record e { line = if doubt then i else e.line }

  -- ---- accepting

  -- what came to an input, and is held there
  abbrev pub holds_more : (i : LineView places) → (n : ℕ) → HasInput i n → List Incoming → Effect places
  holds_more i n h came = record (quiet i (record i { inputs = change_input (held_now (h.input.held ++ came)) n i.inputs })) { came = record { input = n; events = came } ∷ [] }

  -- a row joins the queue, which had room for it; inputs and ends are these then
  abbrev pub with_written : LineView places → List InputView → List TakerView → PageRow → Queue → LineView places
  with_written i inputs takers row before = record i {
    inputs = inputs;
    takers = takers;
    holds = with_queue (with_row row before) i.holds;
    unread = i.unread ++ row_of row ∷ [];
    uncovered = true;
    written = suc i.written;
  }

  -- ---- batches

  abbrev pub new_batch : LineView places → List Row → Option Kit → Batch
  new_batch i rows kit = record { number = i.next_batch; plan = i.plan; rows = rows; verdicts = None; left = []; kit = kit; parcel = None }

  abbrev pub with_batch : List Batch → List Row → List Kit → LineView places → LineView places
  with_batch batches rest kits i = record i { unread = rest; kept = []; batches = batches; next_batch = suc i.next_batch; kits = kits }

  abbrev pub reading : (i : LineView places) → TakesRows i → TakesKit i → Effect places
  reading i t k =
      tells i (with_batch (i.batches ++ new_batch i t.rows (Some k.kit) ∷ []) t.rest (k.front ++ k.back) i) (Read i.next_batch i.plan.generation (numbers_found t.rows) ∷ [])

  -- it comes home without a result: its kit comes alone
  abbrev pub losing : (i : LineView places) → (n : ℕ) → IsAway i n → Effect places
  losing i n a = record (quiet i (record i { batches = change_batch without_kit n i.batches; kits = home_with i.plan.generation a.kit i.kits })) {
    closed = closed_of i.plan.generation a.kit;
  }

  -- ---- deliveries

  abbrev pub delivered : ℕ → List Due → LineView places → LineView places
  delivered n rest i = record i { batches = change_batch (one_less rest) n i.batches }

  abbrev pub telling : (i : LineView places) → (n : ℕ) → (parts : List DeadPart) → List Due → AppendsNow i parts → Effect places
  telling i n parts rest a = record (tells i (record (delivered n rest i) { holds = with_dead a.new i.holds }) (letters_told n a.shed parts)) { asked = a.asked }

  -- events go to a place that needs no answer
  abbrev pub giving : Bytes → LineView places → ℕ → Batch → Place → List Ev → List Due → List Due → Effect places
  giving bytes i n b at events left rest = record (tells i (record (delivered n rest i) { holds = with_bytes bytes b.plan.config left i.holds }) (Deliver n at events [] ∷ [])) {
    printed = bytes_at bytes is_stdout b.plan.config left;
  }

  -- a box took all events, or rejected some, whose letters are appended before the delivery is told
  abbrev pub boxing : LineView places → (n number : ℕ) → List Ev → List Fate → List Due → Effect places
  boxing i n number events fates rest = record (tells i (delivered n rest i) (Deliver n (place.Foreign number) events fates ∷ [])) { given = box_took number events fates }

  abbrev pub rejecting : (i : LineView places) → (n number : ℕ) → List Ev → List Fate → List Due → (parts : List DeadPart) → AppendsNow i parts → Effect places
  rejecting i n number events fates rest parts a =
      record (tells i (record (delivered n rest i) { holds = with_dead a.new i.holds }) (letters_told n a.shed parts ++ Deliver n (place.Foreign number) events fates ∷ [])) {
        given = box_took number events fates;
        asked = a.asked;
      }

  -- the events of a parcel stand with the listener of its address
  abbrev pub hearing : LineView places → ℕ → List ℕ → List Ev → List Due → Effect places
  hearing i n address events rest = tells i (delivered n rest i) (Deliver n (place.Address address) events [] ∷ [])

  -- it failed, and something of it was given all the same
  abbrev pub failing : LineView places → List ℕ → List Given → Effect places
  failing i printed given = record (quiet i i) { printed = printed; given = given }

  -- ---- acknowledgements, marks and pages that go

  abbrev pub acknowledging : LineView places → ℕ → Queue → ℕ → Effect places
  acknowledging i n queue rows = record (tells i (record i {
    holds = with_queue queue i.holds;
    batches = without_batch n i.batches;
    boxes = wanted i.plan.generation (without_batch n i.batches) i.boxes;
    uncovered = true;
    acknowledged = i.acknowledged + rows;
  }) (Ack n ∷ [])) {
    closed_boxes = unwanted i.plan.generation (without_batch n i.batches) i.boxes;
  }

  abbrev pub with_mark : ℕ → LineView places → LineView places
  with_mark front i = record i { holds = with_queue (marked i.holds.queue) i.holds; mark = Some front; uncovered = false; written = 0; acknowledged = 0 }

  abbrev pub marking : LineView places → ℕ → Effect places
  marking i front = tells i (with_mark front i) (Mark front ∷ [])

  -- of a watched file the place behind the last row of which the input is told is recorded
  abbrev pub assuring : (i : LineView places) → (n : ℕ) → HasInput i n → ℕ → Effect places
  assuring i n h front =
      record (tells i (record i { inputs = change_input (assured_now front) n i.inputs }) (Assure n front ∷ [])) { recorded = last_places (rows_up_to front h.input.rows) }

  abbrev pub failing_to_assure : (i : LineView places) → (n : ℕ) → HasInput i n → ℕ → Effect places
  failing_to_assure i n h front = record (quiet i i) { recorded = last_places (rows_up_to front h.input.rows) }

  abbrev pub purging : (i : LineView places) → HasSpent i.holds.queue → Effect places
  purging i h = tells i (record i { holds = with_queue (without_page i.holds.queue h) i.holds }) (Purge h.page.number ∷ [])

module _ (makes : Makes) where
  -- what is due of a batch of these rows
  abbrev pub due_now : Plan → List Row → List Verdict → List Due
  due_now plan rows verdicts = due.due makes plan.config plan.draws (events_in rows) verdicts

  abbrev pub back_with : List Verdict → Batch → Batch
  back_with verdicts b = record b { verdicts = Some verdicts; left = due_now b.plan b.rows verdicts; kit = None }

  module _ {places : Places} where
    -- the line does the work of a batch itself, since the shop has no worker for it
    abbrev pub working : (i : LineView places) → TakesRows i → List Verdict → Effect places
    working i t verdicts =
        tells i (with_batch (i.batches ++ back_with verdicts (new_batch i t.rows None) ∷ []) t.rest i.kits i)
        (Read i.next_batch i.plan.generation (numbers_found t.rows) ∷ Back i.next_batch verdicts ∷ [])

    -- a batch comes back
    abbrev pub collecting : (i : LineView places) → (n : ℕ) → IsAway i n → List Verdict → Effect places
    collecting i n a verdicts =
        record (tells i (record i { batches = change_batch (back_with verdicts) n i.batches; kits = home_with i.plan.generation a.kit i.kits }) (Back n verdicts ∷ [])) {
          closed = closed_of i.plan.generation a.kit;
        }

module _ (listening : Listening) {places : Places} where
  -- ---- a configuration is adopted

  abbrev pub adopted : (i : LineView places) → Changes listening i → LineView places
  adopted i c = record i {
    plan = c.plan;
    kits = c.kits;
    boxes = wanted c.plan.generation i.batches i.boxes ++ boxes_of c.plan;
    inputs = map (carried i.inputs) c.inputs;
    takers = c.takers ++ c.new_takers;
    next_place = c.next_place;
    senders = i.senders ++ c.new_senders;
  }

  abbrev pub adopting : (i : LineView places) → Changes listening i → Effect places
  adopting i c = record (tells i (adopted i c) (Adopt c.plan.generation c.plan.config c.plan.draws ∷ [])) {
    closed = i.kits;
    closed_boxes = unwanted c.plan.generation i.batches i.boxes;
  }

  -- ---- an event is accepted

  abbrev pub accepting : (i : LineView places) (n : ℕ) (v : InputView) (event : Ev) → Option ParcelAt → IsRowFor listening i v event → List InputView → List TakerView → List Came → Effect places
  accepting i n v event parcel r inputs takers came =
      record (tells i (with_written i inputs takers r.row r.before) (Accept n parcel r.row.number r.row.event ∷ [])) { came = came }

  abbrev pub accepting_line : (i : LineView places) (n : ℕ) (c : Comes listening i n) → IsRowFor listening i c.by.input c.first.event → Effect places
  accepting_line i n c r =
      accepting i n c.by.input c.first.event None r (change_input (accepted_now c.rest (record { number = r.row.number; at = c.first.at })) n i.inputs) i.takers
      (record { input = n; events = c.came } ∷ [])

  abbrev pub accepting_parcel : (i : LineView places) (n : ℕ) (a : Arrives listening i n) → IsRowFor listening i a.by.input a.event → Effect places
  accepting_parcel i n a r = accepting i n a.by.input a.event (Some a.at) r i.inputs (change_taker (row_made a.at.number r.row.number) a.at.place a.takers) []

module _ (makes : Makes) (bytes : Bytes) (places : Places) where
  -- What a stop within the step may leave, where these were told before it: what its places held, or what they hold behind it.
  pub data MayLeave (told : List Entry) (i : LineView places) (e : Effect places) (image : Image) : Type 0 where
    Before : StopLeaves makes bytes places told i.holds image → MayLeave told i e image
    Behind : StopLeaves makes bytes places (told ++ e.told) e.behind image → MayLeave told i e image
