-- Where a pipeline stands after what it told.
use Rattle.std.specs.Prelude.{ℕ, ◌+◌, ◌==◌, ◌&&◌, not, nat_le, max, Bool, List, [], ◌∷◌, ◌++◌, length, map, take, Option, Some, None, if◌then◌else◌}
use Rattle.std.specs.List.{filter, list_any}
use Rattle.event_tree.specs.Events.{Ev}
use Rattle.event_tree.specs.declared.lists.DeadPart.{DeadPart}
use Rattle.config_tree.specs.declared.tree.Config.{Config}
use Rattle.settings_lines.specs.declared.settings.Policy.{Policy}
use Rattle.dead_letters.specs.Shedding.{shedding}
use Rattle.dead_letters.specs.declared.shedding.Shedding.{Shedding}
use Rattle.foreign_parts.specs.declared.filter.Verdict.{Verdict}
use Rattle.event_flow.specs.Meaning.{Makes, Due, due}
use Rattle.event_flow.specs.Meaning as due
use Rattle.event_flow.specs.Places.{Draws}
use Rattle.queue_files.specs.Found.{Row}
use Rattle.history_book.specs.Entries.{Entry, Accept, Mark, Assure, Read, Back, Shed, Deliver, Letters, Ack, Purge, Adopt, Opened}

-- a configuration that was adopted, with the numbers of its boxes
pub record Plan : Type 0 where
  pub generation : ℕ
  pub config : Config
  pub draws : Draws

-- a row that was written: the number of its input, and the configurations up to then since the pipeline was opened, the newest first
pub record Written : Type 0 where
  pub number : ℕ
  pub input : ℕ
  pub under : List Plan
  pub event : Ev

-- A batch that is read and not acknowledged: the configuration that it goes by and its rows; the verdicts, once it is back; and of what is due of it what
-- was told, and what is left, both in order.
pub record Out : Type 0 where
  pub batch : ℕ
  pub plan : Plan
  pub rows : List Written
  pub verdicts : Option (List Verdict)
  pub told : List Due
  pub left : List Due

-- Between two entries that belong together: what is shed of the letters that come next, and of the segments before them; or, with that, letters of events
-- that the next delivery's place rejected, less those that were shed.
pub data Between : Type 0 where
  Nothing : Between
  Shed_of : (batch : ℕ) (shed : Shedding) → Between
  Rejecting : (batch : ℕ) (shed : Shedding) (letters : List DeadPart) → Between

-- the limit of the dead letters, and what is done there
pub record Limits : Type 0 where
  pub limit : ℕ
  pub policy : Policy

pub record State : Type 0 where
  -- none before the pipeline was first opened
  pub limits : Option Limits
  -- the configurations since it was opened, the newest first
  pub plans : List Plan
  pub rows : List Written
  -- the number up to which rows are settled, and the numbers that are acknowledged
  pub front : ℕ
  pub acknowledged : List ℕ
  -- since the pipeline was opened: the numbers that batches were given, and the numbers of these batches
  pub read : List ℕ
  pub used : List ℕ
  pub out : List Out
  -- the least and the greatest number that the next row may have
  pub low : ℕ
  pub high : ℕ
  pub between : Between

abbrev pub start : State
start = record {
  limits = None;
  plans = [];
  rows = [];
  front = 0;
  acknowledged = [];
  read = [];
  used = [];
  out = [];
  low = 1;
  high = 1;
  between = Nothing;
}

abbrev pub newest : List Plan → Option Plan
newest [] = None
newest (p ∷ plans) = Some p

abbrev pub is_among : ℕ → List ℕ → Bool
is_among n ns = list_any (λ m. n == m) ns

abbrev pub numbers_of : List Written → List ℕ
numbers_of rows = map (λ w. w.number) rows

abbrev pub events_of : List Written → List Ev
events_of rows = map (λ w. w.event) rows

-- the rows that are neither acknowledged nor in a batch
abbrev pub is_unread : State → Written → Bool
is_unread s w = not (is_among w.number s.acknowledged) && not (is_among w.number s.read)

abbrev pub unread : State → List Written
unread s = filter (is_unread s) s.rows

-- ---- batches

abbrev pub out_of : ℕ → List Out → Option Out
out_of batch [] = None
out_of batch (o ∷ os) = if batch == o.batch then Some o else out_of batch os

abbrev pub change : (Out → Out) → ℕ → List Out → List Out
change f batch [] = []
change f batch (o ∷ os) = if batch == o.batch then f o ∷ os else o ∷ change f batch os

abbrev pub without : ℕ → List Out → List Out
without batch [] = []
without batch (o ∷ os) = if batch == o.batch then os else o ∷ without batch os

abbrev pub numbers_out : Option Out → List ℕ
numbers_out None = []
numbers_out (Some o) = numbers_of o.rows

abbrev pub fresh : ℕ → Plan → List Written → Out
fresh batch plan rows = record { batch = batch; plan = plan; rows = rows; verdicts = None; told = []; left = [] }

-- what is due of a batch, with these verdicts
abbrev pub due_of : Makes → Out → List Verdict → List Due
due_of makes o verdicts = due makes o.plan.config o.plan.draws (events_of o.rows) verdicts

abbrev pub brought_back : Makes → List Verdict → Out → Out
brought_back makes verdicts o = record o { verdicts = Some verdicts; told = []; left = due_of makes o verdicts }

-- the next of what is due was told
abbrev pub told_from : Out → List Due → Out
told_from o [] = o
told_from o (d ∷ rest) = record o { told = o.told ++ d ∷ []; left = rest }

abbrev pub told_next : Out → Out
told_next o = told_from o o.left

-- ---- the steps

-- a batch of the first unread rows, as many as there are numbers, goes by the newest configuration
abbrev pub reads : State → ℕ → List ℕ → Option Plan → State
reads s batch numbers None = s
reads s batch numbers (Some plan) = record s {
  read = s.read ++ numbers;
  used = batch ∷ s.used;
  out = s.out ++ fresh batch plan (take (length numbers) (unread s)) ∷ [];
}

-- what is shed with the letters that come now
abbrev pub shed_in : Between → Shedding
shed_in Nothing = shedding 0 []
shed_in (Shed_of batch shed) = shed
shed_in (Rejecting batch shed letters) = shed

-- Letters that are due are told; else they are those of events that the next delivery's place rejected.
abbrev pub tells_letters : State → ℕ → List DeadPart → List Due → State
tells_letters s batch letters [] = s
tells_letters s batch letters (due.Letters ds ∷ rest) = record s { out = change told_next batch s.out; between = Nothing }
tells_letters s batch letters (due.Events id at es ∷ rest) = record s { between = Rejecting batch (shed_in s.between) letters }

abbrev pub left_of : Option Out → List Due
left_of None = []
left_of (Some o) = o.left

-- the number of the last row; 0 where there is none
abbrev pub last_number : List Row → ℕ
last_number [] = 0
last_number (r ∷ []) = r.number
last_number (r ∷ s ∷ rows) = last_number (s ∷ rows)

-- behind which no row was found, and none is settled
abbrev pub top_of : State → List Row → ℕ
top_of s found = max s.front (last_number found)

abbrev pub numbers_found : List Row → List ℕ
numbers_found found = map (λ r. r.number) found

-- Rows behind the top are gone, those that are found aren't acknowledged any more, and no batch is out.
abbrev pub opens : State → List Row → Limits → State
opens s found limits = record {
  limits = Some limits;
  plans = [];
  rows = filter (λ w. nat_le w.number (top_of s found)) s.rows;
  front = s.front;
  acknowledged = filter (λ n. nat_le n (top_of s found) && not (is_among n (numbers_found found))) s.acknowledged;
  read = [];
  used = [];
  out = [];
  low = top_of s found + 1;
  high = s.high;
  between = Nothing;
}

abbrev pub written : State → ℕ → ℕ → Ev → Written
written s input number event = record { number = number; input = input; under = s.plans; event = event }

module _ (makes : Makes) where
  abbrev pub next : State → Entry → State
  next s (Accept input parcel number event) = record s { rows = s.rows ++ written s input number event ∷ []; low = number + 1; high = number + 1 }
  next s (Mark front) = record s { front = front; low = front + 1; high = front + 1 }
  next s (Assure input front) = s
  next s (Read batch generation numbers) = reads s batch numbers (newest s.plans)
  next s (Back batch verdicts) = record s { out = change (brought_back makes verdicts) batch s.out }
  next s (Shed batch older newer) = record s { between = Shed_of batch (shedding older newer) }
  next s (Deliver batch at events fates) = record s { out = change told_next batch s.out; between = Nothing }
  next s (Letters batch letters) = tells_letters s batch letters (left_of (out_of batch s.out))
  next s (Ack batch) = record s {
    acknowledged = s.acknowledged ++ numbers_out (out_of batch s.out);
    out = without batch s.out;
  }
  next s (Purge page) = s
  next s (Adopt generation config draws) = record s { plans = record { generation = generation; config = config; draws = draws } ∷ s.plans }
  next s (Opened rows limit policy) = opens s rows (record { limit = limit; policy = policy })

  abbrev pub after : State → List Entry → State
  after s [] = s
  after s (entry ∷ entries) = after (next s entry) entries
