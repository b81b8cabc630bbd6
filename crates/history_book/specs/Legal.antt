-- Which histories of a pipeline are legal.
use Rattle.std.specs.Prelude.{◌≡◌, ◌≢◌, ◌⊎◌, ◌≤◌, ◌<◌, ℕ, ◌+◌, ◌^◌, ◌&&◌, not, Bool, true, List, [], ◌∷◌, ◌++◌, length, map, Option, Some, None, bytes_eq, codes, if◌then◌else◌, ⊤}
use Rattle.std.specs.Fmt.{decimal}
use Rattle.event_tree.specs.Events.{Ev}
use Rattle.event_tree.specs.declared.lists.DeadPart.{DeadPart}
use Rattle.config_tree.specs.declared.tree.Config.{Config}
use Rattle.config_tree.specs.declared.tree.Plugin.{Plugin}
use Rattle.settings_lines.specs.declared.settings.Policy.{Policy}
use Rattle.settings_lines.specs.declared.settings.Policy.TheVariants.{Hold, DropNewer, DropOlder}
use Rattle.element_code.specs.declared.row.Origin.{Origin}
use Rattle.element_code.specs.declared.row.Origin.TheVariants.{Unknown, Id}
use Rattle.foreign_parts.specs.Delivering.{AreFates}
use Rattle.foreign_parts.specs.declared.filter.Verdict.{Verdict}
use Rattle.foreign_parts.specs.declared.output.Fate.{Fate}
use Rattle.foreign_parts.specs.declared.output.Fate.TheVariants as f
use Rattle.foreign_parts.specs.declared.place.Place.{Place}
use Rattle.foreign_parts.specs.declared.place.Place.TheVariants as place
use Rattle.event_flow.specs.Ids.{plugin_id}
use Rattle.event_flow.specs.Meaning.{Makes, Due, UsesExactly}
use Rattle.event_flow.specs.Meaning as due
use Rattle.event_flow.specs.Parts.{parts_of}
use Rattle.event_flow.specs.Places.{Draws}
use Rattle.queue_files.specs.Found.{Row, Found}
use Rattle.dead_letters.specs.Appends.{kept_from}
use Rattle.history_book.specs.Entries.{Entry, ParcelAt, Accept, Mark, Assure, Read, Back, Shed, Deliver, Letters, Ack, Purge, Adopt, Opened}
use Rattle.history_book.specs.Inputs.{Input, IsInput, HasId}
use Rattle.history_book.specs.Lists.{IsIn, Rise, AreBelow, Differ}
use Rattle.history_book.specs.States.{Plan, Written, Out, Between, Nothing, Shed_of, Rejecting, Limits, State, newest, unread, numbers_of, events_of, out_of, next, top_of, numbers_found}

-- ---- rows that are found

-- the row names no input, or the id that its input had when it was written
abbrev pub Names : Origin → Written → Type 0
Names Unknown w = ⊤
Names (Id id) w = HasId w.under w.input id

-- what is found is this row
pub record IsRowOf (r : Row) (w : Written) : Type 0 where
  pub number : r.number ≡ w.number
  pub event : r.event ≡ w.event
  pub names : Names r.origin w

abbrev pub IsFound : List Row → Written → Type 0
IsFound found w = (r : Row) × IsIn r found × IsRowOf r w

-- What may be found once the pipeline stands there: rows that were written, in their order; and each that is settled, or before one that is found, is
-- found or acknowledged.
pub record MayBeFound (s : State) (found : List Row) : Type 0 where
  pub known : (r : Row) → IsIn r found → (w : Written) × IsIn w s.rows × IsRowOf r w
  pub rise : Rise 0 (numbers_found found)
  pub settled : (w : Written) → IsIn w s.rows → w.number ≤ s.front → IsFound found w ⊎ IsIn w.number s.acknowledged
  pub before : (w : Written) (r : Row) → IsIn w s.rows → IsIn r found → w.number < r.number → IsFound found w ⊎ IsIn w.number s.acknowledged

-- the same of what a folder holds, with the number that comes next there, and with what its head page's checkpoint speaks of: of all that is settled
pub record Fits (s : State) (found : Found) : Type 0 where
  pub rows : MayBeFound s found.rows
  pub behind : top_of s found.rows < found.next
  pub within : found.next ≤ s.high
  pub recorded : s.front < found.recorded

-- ---- deliveries

-- the name of the first of these outputs with this id, the k-th being the first
abbrev pub name_from : ℕ → List ℕ → List Plugin → List ℕ
name_from k id [] = []
name_from k id (p ∷ ps) = if bytes_eq (plugin_id (codes "output") k p) id then p.name else name_from (k + 1) id ps

abbrev pub output_name : Config → List ℕ → List ℕ
output_name config id = name_from 1 id (parts_of config.outputs).plugins

-- the reason of a letter whose event was rejected
abbrev pub status_reason : ℕ → List ℕ → List ℕ
status_reason status text = codes "status " ++ (decimal status ++ (codes ": " ++ text))

abbrev pub rejected : Config → List ℕ → ℕ → List ℕ → Ev → DeadPart
rejected config id status text e = record { kind = output_name config id; id = id; reason = status_reason status text; event = e }

-- the letters of the events that were rejected, in their order
abbrev pub rejections : Config → List ℕ → List Fate → List Ev → List DeadPart
rejections config id [] es = []
rejections config id (x ∷ fates) [] = []
rejections config id (f.Took ∷ fates) (e ∷ es) = rejections config id fates es
rejections config id (f.Rejected status text ∷ fates) (e ∷ es) = rejected config id status text e ∷ rejections config id fates es

-- a status has 16 bits, and a text at most 65,536 bytes
pub record MayReject (status : ℕ) (text : List ℕ) : Type 0 where
  pub status_fits : status < 2 ^ 16
  pub text_fits : length text ≤ 65536

-- the letter is that of the event, rejected with a status
pub record IsRejection (config : Config) (id : List ℕ) (letter : DeadPart) (e : Ev) : Type 0 where
  pub status : ℕ
  pub text : List ℕ
  pub may : MayReject status text
  pub is : letter ≡ rejected config id status text e

-- these are letters of some of the events, in their order, each rejected with a status
abbrev pub AreRejections : Config → List ℕ → List DeadPart → List Ev → Type 0
AreRejections config id [] es = ⊤
AreRejections config id (l ∷ ls) [] = ⊥
AreRejections config id (l ∷ ls) (e ∷ es) = (IsRejection config id l e × AreRejections config id ls es) ⊎ AreRejections config id (l ∷ ls) es

-- each rejected event has such a status
abbrev pub HasStatus : Fate → Type 0
HasStatus f.Took = ⊤
HasStatus (f.Rejected status text) = status < 2 ^ 16

abbrev pub AreStatuses : List Fate → Type 0
AreStatuses [] = ⊤
AreStatuses (x ∷ fates) = HasStatus x × AreStatuses fates

-- at a box each event has its fate, and elsewhere none has one
abbrev pub FatesFit : Place → List Fate → List Ev → Type 0
FatesFit (place.Foreign number) fates es = AreFates fates es × AreStatuses fates
FatesFit place.Stdout fates es = fates ≡ []
FatesFit (place.File path) fates es = fates ≡ []
FatesFit (place.Address address) fates es = fates ≡ []
FatesFit place.Discard fates es = fates ≡ []
FatesFit place.Dead fates es = fates ≡ []

-- the letters of what was rejected stand just before, less those that were shed; where nothing was, none do
abbrev pub WereTold : Between → ℕ → List DeadPart → Type 0
WereTold Nothing batch letters = letters ≡ []
WereTold (Shed_of b shed) batch letters = ⊥
WereTold (Rejecting b shed told) batch letters =
    (b ≡ batch) × (letters ≢ []) × AreBelow (length letters) shed.newer × (told ≡ kept_from shed.newer 0 letters)

-- a batch that is out and back, and what is left of what is due of it
pub record IsBack (s : State) (batch : ℕ) (left : List Due) : Type 0 where
  pub out : Out
  pub has : out_of batch s.out ≡ Some out
  pub verdicts : List Verdict
  pub back : out.verdicts ≡ Some verdicts
  pub left_is : out.left ≡ left

-- the events are the next delivery that is due, to this place
pub record MayDeliver (s : State) (batch : ℕ) (at : Place) (events : List Ev) (fates : List Fate) : Type 0 where
  pub id : List ℕ
  pub rest : List Due
  pub is_back : IsBack s batch (due.Events id at events ∷ rest)
  pub fates_fit : FatesFit at fates events
  pub told : WereTold s.between batch (rejections is_back.out.plan.config id fates events)

-- what was shed just before, if it was of this batch
abbrev pub IsShed : Between → ℕ → List ℕ → Type 0
IsShed Nothing batch newer = newer ≡ []
IsShed (Shed_of b shed) batch newer = (b ≡ batch) × (newer ≡ shed.newer)
IsShed (Rejecting b shed letters) batch newer = ⊥

-- Letters that are due come next, less those that were shed; or letters of some events of the next delivery, which is to a box, less those.
abbrev pub AreNextLetters : Config → List ℕ → List DeadPart → List Due → Type 0
AreNextLetters config newer letters [] = ⊥
AreNextLetters config newer letters (due.Letters ds ∷ rest) = AreBelow (length ds) newer × (letters ≡ kept_from newer 0 ds)
AreNextLetters config newer letters (due.Events id (place.Foreign n) es ∷ rest) =
    (parts : List DeadPart) × AreRejections config id parts es × (parts ≢ []) × AreBelow (length parts) newer × (letters ≡ kept_from newer 0 parts)
AreNextLetters config newer letters (due.Events id place.Stdout es ∷ rest) = ⊥
AreNextLetters config newer letters (due.Events id (place.File path) es ∷ rest) = ⊥
AreNextLetters config newer letters (due.Events id (place.Address address) es ∷ rest) = ⊥
AreNextLetters config newer letters (due.Events id place.Discard es ∷ rest) = ⊥
AreNextLetters config newer letters (due.Events id place.Dead es ∷ rest) = ⊥

pub record MayTellLetters (s : State) (batch : ℕ) (letters : List DeadPart) : Type 0 where
  pub left : List Due
  pub is_back : IsBack s batch left
  pub newer : List ℕ
  pub shed : IsShed s.between batch newer
  pub next : AreNextLetters is_back.out.plan.config newer letters left

-- ---- what is shed

abbrev pub MayShedBy : Policy → ℕ → Type 0
MayShedBy Hold older = ⊥
MayShedBy DropNewer older = older ≡ 0
MayShedBy DropOlder older = ⊤

-- letters may come next, and these are places among them
abbrev pub ArePlaces : List ℕ → List Due → Type 0
ArePlaces newer [] = ⊥
ArePlaces newer (due.Letters ds ∷ rest) = AreBelow (length ds) newer
ArePlaces newer (due.Events id (place.Foreign n) es ∷ rest) = AreBelow (length es) newer
ArePlaces newer (due.Events id place.Stdout es ∷ rest) = ⊥
ArePlaces newer (due.Events id (place.File path) es ∷ rest) = ⊥
ArePlaces newer (due.Events id (place.Address address) es ∷ rest) = ⊥
ArePlaces newer (due.Events id place.Discard es ∷ rest) = ⊥
ArePlaces newer (due.Events id place.Dead es ∷ rest) = ⊥

-- something is shed, by a policy that allows it, of letters that may come next
pub record MayShed (s : State) (batch older : ℕ) (newer : List ℕ) : Type 0 where
  pub limits : Limits
  pub has : s.limits ≡ Some limits
  pub policy : MayShedBy limits.policy older
  pub some : (older ≢ 0) ⊎ (newer ≢ [])
  pub left : List Due
  pub is_back : IsBack s batch left
  pub rise : Rise 0 newer
  pub places : ArePlaces newer left

-- ---- entries

-- a configuration is adopted, and the last entry wants no other just behind it
pub record IsRunning (s : State) : Type 0 where
  pub plan : Plan
  pub newest : newest s.plans ≡ Some plan
  pub between : s.between ≡ Nothing

-- An event comes by an input of these configurations: one that the newest has, or that ends a parcel which it took.
pub record MayCome (plans : List Plan) (number : ℕ) (parcel : Option ParcelAt) : Type 0 where
  pub input : Input
  pub is_input : IsInput plans number input
  pub is_open : (input.is_open ≡ true) ⊎ (parcel ≢ None)

-- The batch has a new number, goes by the newest configuration, and has the first of the rows that are unread.
pub record MayRead (s : State) (batch generation : ℕ) (numbers : List ℕ) : Type 0 where
  pub running : IsRunning s
  pub generation_is : generation ≡ running.plan.generation
  pub unused : IsIn batch s.used → ⊥
  pub some : numbers ≢ []
  pub rows : List Written
  pub rest : List Written
  pub first : unread s ≡ rows ++ rest
  pub numbers_are : numbers ≡ numbers_of rows

-- the first since the pipeline was opened, or another configuration with the next generation
abbrev pub MayAdopt : List Plan → ℕ → Config → Type 0
MayAdopt [] generation config = ⊤
MayAdopt (plan ∷ plans) generation config = (config ≢ plan.config) × (generation ≡ plan.generation + 1)

-- outputs that aren't built in
abbrev pub is_boxed : List ℕ → Bool
is_boxed name = not (bytes_eq name (codes "stdout")) && not (bytes_eq name (codes "file")) && not (bytes_eq name (codes "pipeline")) && not (bytes_eq name (codes "sink"))

-- the ids of these, the first output being the k-th
abbrev pub boxed_from : ℕ → List Plugin → List (List ℕ)
boxed_from k [] = []
boxed_from k (p ∷ ps) = if is_boxed p.name then plugin_id (codes "output") k p ∷ boxed_from (k + 1) ps else boxed_from (k + 1) ps

-- Each boxed output of a configuration has a box, by its number, and each box is that of one.
pub record HasDraws (config : Config) (draws : Draws) : Type 0 where
  pub ids : map (λ (d : List ℕ × ℕ). d.0) draws ≡ boxed_from 1 (parts_of config.outputs).plugins
  pub differ : Differ (map (λ (d : List ℕ × ℕ). d.1) draws)

-- the pipeline was opened
abbrev pub WasOpened : Option Limits → Type 0
WasOpened None = ⊥
WasOpened (Some limits) = ⊤

module _ (makes : Makes) where
  -- the batch isn't back yet, and exactly these verdicts are used
  pub record MayComeBack (s : State) (batch : ℕ) (verdicts : List Verdict) : Type 0 where
    pub out : Out
    pub has : out_of batch s.out ≡ Some out
    pub away : out.verdicts ≡ None
    pub exactly : UsesExactly makes out.plan.config out.plan.draws (events_of out.rows) verdicts

  -- the entry is legal where the pipeline stands so
  abbrev pub Legal_at : State → Entry → Type 0
  Legal_at s (Accept input parcel number event) = IsRunning s × (s.low ≤ number) × (number ≤ s.high) × MayCome s.plans input parcel
  Legal_at s (Mark front) = IsRunning s × (s.low ≤ front + 1) × (front + 1 ≤ s.high)
  Legal_at s (Assure input front) = IsRunning s × (front ≡ s.front)
  Legal_at s (Read batch generation numbers) = MayRead s batch generation numbers
  Legal_at s (Back batch verdicts) = IsRunning s × MayComeBack s batch verdicts
  Legal_at s (Shed batch older newer) = IsRunning s × MayShed s batch older newer
  Legal_at s (Deliver batch at events fates) = MayDeliver s batch at events fates
  Legal_at s (Letters batch letters) = MayTellLetters s batch letters
  Legal_at s (Ack batch) = IsRunning s × IsBack s batch []
  Legal_at s (Purge page) = IsRunning s
  Legal_at s (Adopt generation config draws) = WasOpened s.limits × (s.between ≡ Nothing) × MayAdopt s.plans generation config × HasDraws config draws
  Legal_at s (Opened rows limit policy) = MayBeFound s rows

  abbrev pub Legal : State → List Entry → Type 0
  Legal s [] = ⊤
  Legal s (entry ∷ entries) = Legal_at s entry × Legal (next makes s entry) entries
