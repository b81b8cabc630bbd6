-- What holds of every legal history.
use Rattle.std.specs.Prelude.{◌≡◌, ◌⊎◌, ◌≤◌, ℕ, List, [], ◌∷◌, ◌++◌, Some}
use Rattle.event_tree.specs.Events.{Ev}
use Rattle.event_tree.specs.declared.lists.DeadPart.{DeadPart}
use Rattle.settings_lines.specs.declared.settings.Policy.{Policy}
use Rattle.foreign_parts.specs.declared.filter.Verdict.{Verdict}
use Rattle.foreign_parts.specs.declared.output.Fate.{Fate}
use Rattle.foreign_parts.specs.declared.place.Place.{Place}
use Rattle.foreign_parts.specs.declared.place.Place.TheVariants as place
use Rattle.event_flow.specs.Meaning.{Makes, Due}
use Rattle.event_flow.specs.Meaning as due
use Rattle.queue_files.specs.Found.{Found}
use Rattle.dead_letters.specs.Found.{Held}
use Rattle.dead_letters.specs.declared.shedding.Shedding.{Shedding}
use Rattle.history_book.specs.Contents.{Bytes, Clock, Appended, FileHolds, DeadHolds}
use Rattle.history_book.specs.Entries.{Entry, Accept, Mark, Assure, Read, Back, Shed, Deliver, Letters, Ack, Purge, Adopt, Opened}
use Rattle.history_book.specs.Legal.{rejections, Legal_at, Legal, Fits, IsFound}
use Rattle.history_book.specs.Lists.{IsIn}
use Rattle.history_book.specs.States.{Plan, Written, Out, Limits, State, start, out_of, unread, due_of, next, after}

-- what was told up to any step is legal too
abbrev pub PrefixesAreLegal : Type 0
PrefixesAreLegal = (makes : Makes) (told more : List Entry) → Legal makes start (told ++ more) → Legal makes start told

-- Since the pipeline stood there, this row was acknowledged with its batch, and before that all was told that was due of the batch: what the
-- configuration of its reading derives of its rows, with the verdicts of its boxed filters.
pub record WasDelivered (makes : Makes) (from : State) (told : List Entry) (w : Written) : Type 0 where
  pub before : List Entry
  pub batch : ℕ
  pub rest : List Entry
  pub parts : told ≡ before ++ Ack batch ∷ rest
  pub out : Out
  pub was_out : out_of batch (after makes from before).out ≡ Some out
  pub has : IsIn w out.rows
  pub verdicts : List Verdict
  pub back : out.verdicts ≡ Some verdicts
  pub all_told : out.told ≡ due_of makes out verdicts

-- Of each row that is acknowledged behind a legal history all that was due was told.
abbrev pub AcknowledgedWereDelivered : Type 0
AcknowledgedWereDelivered =
    (makes : Makes) (told : List Entry) (w : Written) → Legal makes start told → IsIn w (after makes start told).rows → IsIn w.number (after makes start told).acknowledged
    → WasDelivered makes start told w

-- A row that is settled is found in each folder that fits the history, whatever was told since; or all that was due of it was told.
abbrev pub SettledStand : Type 0
SettledStand =
    (makes : Makes) (told more : List Entry) (w : Written) (found : Found)
    → Legal makes start (told ++ more) → IsIn w (after makes start told).rows → w.number ≤ (after makes start told).front → Fits (after makes start (told ++ more)) found
    → IsFound found.rows w ⊎ WasDelivered makes start (told ++ more) w

-- An event that was acknowledged to its input is found in each folder that fits the history, whatever was told since; or all that was due of it was told.
abbrev pub AssuredStand : Type 0
AssuredStand =
    (makes : Makes) (told rest : List Entry) (input front : ℕ) (w : Written) (found : Found)
    → Legal makes start (told ++ Assure input front ∷ rest) → IsIn w (after makes start told).rows → w.number ≤ front
    → Fits (after makes start (told ++ Assure input front ∷ rest)) found
    → IsFound found.rows w ⊎ WasDelivered makes start (told ++ Assure input front ∷ rest) w

-- ---- what was told stands in destinations

-- the entry tells this delivery of this batch: events to their place, or letters
abbrev pub Tells : Entry → ℕ → Due → Type 0
Tells (Deliver batch at events fates) b d = (batch ≡ b) × (id : List ℕ) × (d ≡ due.Events id at events)
Tells (Letters batch letters) b d = (batch ≡ b) × (ds : List DeadPart) × (d ≡ due.Letters ds)
Tells (Accept input parcel number event) b d = ⊥
Tells (Mark front) b d = ⊥
Tells (Assure input front) b d = ⊥
Tells (Read batch generation numbers) b d = ⊥
Tells (Back batch verdicts) b d = ⊥
Tells (Shed batch older newer) b d = ⊥
Tells (Ack batch) b d = ⊥
Tells (Purge page) b d = ⊥
Tells (Adopt generation config draws) b d = ⊥
Tells (Opened rows limit policy) b d = ⊥

-- since the pipeline stood there, the entry was told of this delivery, which was the next that was due of a batch with this plan
pub record WasTold (makes : Makes) (from : State) (told : List Entry) (plan : Plan) (d : Due) : Type 0 where
  pub before : List Entry
  pub entry : Entry
  pub rest : List Entry
  pub parts : told ≡ before ++ entry ∷ rest
  pub batch : ℕ
  pub tells : Tells entry batch d
  pub out : Out
  pub was_out : out_of batch (after makes from before).out ≡ Some out
  pub plan_is : out.plan ≡ plan
  pub left : List Due
  pub next : out.left ≡ d ∷ left

-- each delivery of a batch that was acknowledged was told by an entry of its own, when it was the next
abbrev pub DeliveriesWereTold : Type 0
DeliveriesWereTold =
    (makes : Makes) (told : List Entry) (w : Written) → Legal makes start told → (was : WasDelivered makes start told w) → (d : Due) → IsIn d was.out.told
    → WasTold makes start was.before was.out.plan d

-- The bytes of a delivery that was told stand in its file, whatever was told since: in each content that the history allows.
abbrev pub FilesHoldDeliveries : Type 0
FilesHoldDeliveries =
    (makes : Makes) (bytes : Bytes) (path base content : List ℕ) (told : List Entry) (plan : Plan) (id : List ℕ) (events : List Ev)
    → FileHolds makes bytes path start base told content → WasTold makes start told plan (due.Events id (place.File path) events)
    → (front : List ℕ) × (back : List ℕ) × (content ≡ front ++ bytes plan.config id events ++ back)

-- an append to the dead letters
pub record Append : Type 0 where
  pub limits : Limits
  pub shed : Shedding
  pub parts : List DeadPart

-- what openings told of the dead letter queue
abbrev pub limits_in : List Entry → List Limits
limits_in [] = []
limits_in (Opened rows limit policy ∷ told) = record { limit = limit; policy = policy } ∷ limits_in told
limits_in (e ∷ told) = limits_in told

-- these appends alone lie between the two, each by limits that an opening told
abbrev pub ByAppends : List Limits → Clock → List Append → Held → Held → Type 0
ByAppends known clock [] old new = new ≡ old
ByAppends known clock (a ∷ appends) old new = (now : Held) × IsIn a.limits known × Appended a.limits clock a.shed a.parts old now × ByAppends known clock appends now new

-- These letters were appended, less what the policy and the limit shed, and before and since then appends alone changed what the queue holds: all by
-- limits that an opening told.
pub record WereAppended (known : List Limits) (clock : Clock) (base content : Held) (letters : List DeadPart) : Type 0 where
  pub before : List Append
  pub old : Held
  pub first : ByAppends known clock before base old
  pub limits : Limits
  pub is_known : IsIn limits known
  pub shed : Shedding
  pub new : Held
  pub here : Appended limits clock shed letters old new
  pub behind : List Append
  pub since : ByAppends known clock behind new content

-- Letters that were due and told were appended to the dead letter queue: in each content that the history allows.
abbrev pub LettersWereAppended : Type 0
LettersWereAppended =
    (makes : Makes) (clock : Clock) (base content : Held) (told : List Entry) (plan : Plan) (letters : List DeadPart) → DeadHolds makes clock start base told content
    → WasTold makes start told plan (due.Letters letters) → WereAppended (limits_in told) clock base content letters

-- Rows in a folder that fits a history may be told by an opening, and behind it the folder fits still.
abbrev pub OpeningsFit : Type 0
OpeningsFit =
    (makes : Makes) (told : List Entry) (found : Found) (limit : ℕ) (policy : Policy) → Legal makes start told → Fits (after makes start told) found
    → Legal_at makes (after makes start told) (Opened found.rows limit policy) × Fits (next makes (after makes start told) (Opened found.rows limit policy)) found

-- Behind an opening the rows that are found are unread, and no others.
abbrev pub FoundAreUnread : Type 0
FoundAreUnread =
    (makes : Makes) (told : List Entry) (found : Found) (limit : ℕ) (policy : Policy) → Legal makes start told → Fits (after makes start told) found → (w : Written)
    → (IsIn w (unread (next makes (after makes start told) (Opened found.rows limit policy))) → IsFound found.rows w)
    × (IsIn w (next makes (after makes start told) (Opened found.rows limit policy)).rows → IsFound found.rows w
    → IsIn w (unread (next makes (after makes start told) (Opened found.rows limit policy))))

-- the fates that an entry tells
abbrev pub fates_of : Entry → List Fate
fates_of (Deliver batch at events fates) = fates
fates_of e = []

-- Of a delivery whose place rejected events the letters of these were appended to the dead letter queue: in each content that the history allows.
abbrev pub RejectionsWereAppended : Type 0
RejectionsWereAppended =
    (makes : Makes) (clock : Clock) (base content : Held) (told : List Entry) (plan : Plan) (id : List ℕ) (at : Place) (events : List Ev) → Legal makes start told
    → DeadHolds makes clock start base told content → (w : WasTold makes start told plan (due.Events id at events))
    → (rejections plan.config id (fates_of w.entry) events ≡ []) ⊎ WereAppended (limits_in told) clock base content (rejections plan.config id (fates_of w.entry) events)
