-- What was written of a request.
use Rattle.std.specs.Prelude.{◌≡◌, ℤ, ◌≤ℤ◌, List, length, Option, Some, None}
use Rattle.event_tree.specs.Events.{Ev}
use Rattle.event_json.specs.TimeText.{day_of}
use Rattle.event_text.specs.Template.{moment_of}
use Rattle.out_bulk.specs.Requests.{action_line, request_of}
use Rattle.out_bulk.specs.Settings.{Target}
use Rattle.out_bulk.specs.declared.action.ActionLine.{ActionLine}
use Rattle.out_bulk.specs.declared.action.Day.{Day}
use Rattle.out_bulk.specs.declared.request.Request.{Request}

-- it is the request that sends these events, and they are so many
pub record IsRequest (target : Target) (events : List Ev) (request : Request) : Type 0 where
  pub bytes : request.bytes.items ≡ request_of target events
  pub count : request.count ≡ length events

-- the moment is of the day
abbrev pub IsWithin : Day → ℤ → Type 0
IsWithin day m = (day.first ≤ℤ m) × (m ≤ℤ day.last)

-- it is the day of a moment
abbrev pub IsDayOf : ℤ → Day → Type 0
IsDayOf moment day = (m : ℤ) → IsWithin day m → day_of m ≡ day_of moment

-- a moment is there, and of a day
abbrev pub IsOf : Option Day → Option ℤ → Type 0
IsOf None moment = ⊥
IsOf (Some day) None = ⊥
IsOf (Some day) (Some m) = IsWithin day m

-- the line of a day is that of each event of the day
abbrev pub IsKeptLine : Target → ActionLine → Type 0
IsKeptLine target line = (event : Ev) → IsOf line.day (moment_of event) → line.bytes.items ≡ action_line target event
