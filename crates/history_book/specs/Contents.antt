-- What destinations hold after a history.
use Rattle.std.specs.Prelude.{◌≡◌, ◌≢◌, ◌⊎◌, ℕ, List, [], ◌∷◌, ◌++◌, map, Bool, true, false, ℤ, Option, Some, None, bytes_eq, nat_eq, if◌then◌else◌, ⊤}
use Rattle.settings_lines.specs.declared.settings.Policy.TheVariants.{Hold}
use Rattle.event_tree.specs.Events.{Ev}
use Rattle.event_tree.specs.declared.lists.DeadPart.{DeadPart}
use Rattle.config_tree.specs.declared.tree.Config.{Config}
use Rattle.foreign_parts.specs.declared.output.Fate.{Fate}
use Rattle.foreign_parts.specs.declared.place.Place.{Place}
use Rattle.foreign_parts.specs.declared.place.Place.TheVariants as place
use Rattle.event_flow.specs.Meaning.{Makes, Due}
use Rattle.event_flow.specs.Meaning as due
use Rattle.dead_letters.specs.Appends.{kept_from, shed_of, append_to}
use Rattle.dead_letters.specs.Letters.{AreLetters}
use Rattle.dead_letters.specs.Shedding.{shedding}
use Rattle.dead_letters.specs.Found.{Held}
use Rattle.dead_letters.specs.declared.letter.DeadLetter.{DeadLetter}
use Rattle.dead_letters.specs.declared.shedding.Shedding.{Shedding}
use Rattle.history_book.specs.Entries.{Entry, Accept, Mark, Assure, Read, Back, Shed, Deliver, Letters, Ack, Purge, Adopt, Opened}
use Rattle.history_book.specs.Legal.{AreRejections, rejections}
use Rattle.history_book.specs.Lists.{IsIn}
use Rattle.history_book.specs.States.{Out, Between, Nothing, Shed_of, Rejecting, Limits, State, out_of, shed_in, next}

-- the bytes of events by the codec of the output with this id
abbrev pub Bytes : Type 0
Bytes = Config → List ℕ → List Ev → List ℕ

-- ---- what a delivery adds

-- what the next delivery of a batch adds to this place, in bytes
abbrev pub bytes_at : Bytes → (Place → Bool) → Config → List Due → List ℕ
bytes_at bytes here config [] = []
bytes_at bytes here config (due.Letters ds ∷ rest) = []
bytes_at bytes here config (due.Events id at es ∷ rest) = if here at then bytes config id es else []

abbrev pub next_bytes : Bytes → (Place → Bool) → Option Out → List ℕ
next_bytes bytes here None = []
next_bytes bytes here (Some o) = bytes_at bytes here o.plan.config o.left

abbrev pub is_file : List ℕ → Place → Bool
is_file path (place.File other) = bytes_eq path other
is_file path place.Stdout = false
is_file path (place.Address address) = false
is_file path (place.Foreign number) = false
is_file path place.Discard = false
is_file path place.Dead = false

abbrev pub is_stdout : Place → Bool
is_stdout place.Stdout = true
is_stdout (place.File path) = false
is_stdout (place.Address address) = false
is_stdout (place.Foreign number) = false
is_stdout place.Discard = false
is_stdout place.Dead = false

abbrev pub is_box : ℕ → Place → Bool
is_box number (place.Foreign other) = nat_eq number other
is_box number place.Stdout = false
is_box number (place.File path) = false
is_box number (place.Address address) = false
is_box number place.Discard = false
is_box number place.Dead = false

-- ---- dead letters

-- what the clock gave in a call that appends to dead letters which hold this
abbrev pub Clock : Type 0
Clock = Held → List ℤ

abbrev pub part_of : DeadLetter → DeadPart
part_of l = record { kind = l.kind; id = l.id; reason = l.reason; event = l.event }

-- Letters with these parts were appended, as records that read, each at a moment that the clock gave in the call. What was shed is what the policy and the limit say; under
-- `hold` nothing may be.
pub record Appended (limits : Limits) (clock : Clock) (shed : Shedding) (parts : List DeadPart) (old new : Held) : Type 0 where
  pub letters : List DeadLetter
  pub parts_are : map part_of letters ≡ parts
  pub are_letters : AreLetters letters
  pub moments : (l : DeadLetter) → IsIn l letters → IsIn l.moment (clock old)
  pub shed_is : shed ≡ shed_of limits.policy limits.limit old letters
  pub none_held_back : limits.policy ≡ Hold → shed ≡ shedding 0 []
  pub new_is : new ≡ append_to limits.limit old shed letters

-- an append of these, by the limits of the last opening
abbrev pub Appends : Option Limits → Clock → Shedding → List DeadPart → Held → Held → Type 0
Appends None clock shed parts old new = ⊥
Appends (Some limits) clock shed parts old new = Appended limits clock shed parts old new

-- the fates of the delivery that is told next, with its events
abbrev pub next_fates : List Entry → Option (List Fate × List Ev)
next_fates [] = None
next_fates (Deliver batch at events fates ∷ told) = Some (fates, events)
next_fates (e ∷ told) = None

-- these are the letters of what the next delivery rejects; where it isn't told, of some of its events
abbrev pub AreRejected : Config → List ℕ → List Ev → List DeadPart → Option (List Fate × List Ev) → Type 0
AreRejected config id es parts None = AreRejections config id parts es × (parts ≢ [])
AreRejected config id es parts (Some next) = parts ≡ rejections config id next.0 next.1

-- What is appended where letters are told: those that are due, or those of what the next delivery rejects, of which these are told that aren't shed.
abbrev pub AppendsTold : Option Limits → Clock → Shedding → List DeadPart → List Entry → Config → List Due → Held → Held → Type 0
AppendsTold limits clock shed letters told config [] old new = new ≡ old
AppendsTold limits clock shed letters told config (due.Letters ds ∷ rest) old new = Appends limits clock shed ds old new
AppendsTold limits clock shed letters told config (due.Events id at es ∷ rest) old new =
    (parts : List DeadPart) × AreRejected config id es parts (next_fates told) × (letters ≡ kept_from shed.newer 0 parts) × Appends limits clock shed parts old new

-- the same of a batch, if it is out
abbrev pub AppendsOf : Option Limits → Clock → Shedding → List DeadPart → List Entry → Option Out → Held → Held → Type 0
AppendsOf limits clock shed letters told None old new = new ≡ old
AppendsOf limits clock shed letters told (Some o) old new = AppendsTold limits clock shed letters told o.plan.config o.left old new

-- the next delivery of this batch would append these letters: those that are due, or those of some events that its box rejects
abbrev pub MayAppend : Out → List Due → List DeadPart → Type 0
MayAppend o [] parts = ⊥
MayAppend o (due.Letters ds ∷ rest) parts = parts ≡ ds
MayAppend o (due.Events id (place.Foreign n) es ∷ rest) parts = AreRejections o.plan.config id parts es × (parts ≢ [])
MayAppend o (due.Events id place.Stdout es ∷ rest) parts = ⊥
MayAppend o (due.Events id (place.File path) es ∷ rest) parts = ⊥
MayAppend o (due.Events id (place.Address address) es ∷ rest) parts = ⊥
MayAppend o (due.Events id place.Discard es ∷ rest) parts = ⊥
MayAppend o (due.Events id place.Dead es ∷ rest) parts = ⊥

-- ---- what one delivery that was not told may have left

module _ (bytes : Bytes) (path : List ℕ) where
  -- in a file: the bytes of the next delivery of a batch that is out
  abbrev pub FileLeft : State → List ℕ → List ℕ → Type 0
  FileLeft s old new = (o : Out) × IsIn o s.out × (new ≡ old ++ next_bytes bytes (is_file path) (Some o))

-- what was told of it just before: nothing, or what it sheds
abbrev pub FitsTold : Between → ℕ → Shedding → Type 0
FitsTold Nothing batch shed = ⊤
FitsTold (Shed_of b told) batch shed = (b ≡ batch) × (shed ≡ told)
FitsTold (Rejecting b told letters) batch shed = ⊥

-- in the dead letter queue
pub record DeadLeft (clock : Clock) (s : State) (old new : Held) : Type 0 where
  pub out : Out
  pub is_out : IsIn out s.out
  pub parts : List DeadPart
  pub may : MayAppend out out.left parts
  pub shed : Shedding
  pub told : FitsTold s.between out.batch shed
  pub appends : Appends s.limits clock shed parts old new

-- ---- what stands there after a history

module _ (makes : Makes) (bytes : Bytes) where
  module _ (path : List ℕ) where
    -- what an entry makes of a file: a delivery to it appends, and of one that was not told an opening may find the bytes
    abbrev pub FileAfter : State → Entry → List ℕ → List ℕ → Type 0
    FileAfter s (Deliver batch at events fates) old new = new ≡ old ++ next_bytes bytes (is_file path) (out_of batch s.out)
    FileAfter s (Opened rows limit policy) old new = (new ≡ old) ⊎ FileLeft bytes path s old new
    FileAfter s (Accept input parcel number event) old new = new ≡ old
    FileAfter s (Mark front) old new = new ≡ old
    FileAfter s (Assure input front) old new = new ≡ old
    FileAfter s (Read batch generation numbers) old new = new ≡ old
    FileAfter s (Back batch verdicts) old new = new ≡ old
    FileAfter s (Shed batch older newer) old new = new ≡ old
    FileAfter s (Letters batch letters) old new = new ≡ old
    FileAfter s (Ack batch) old new = new ≡ old
    FileAfter s (Purge page) old new = new ≡ old
    FileAfter s (Adopt generation config draws) old new = new ≡ old

    abbrev pub FileHolds : State → List ℕ → List Entry → List ℕ → Type 0
    FileHolds s base [] content = content ≡ base
    FileHolds s base (e ∷ told) content = (now : List ℕ) × FileAfter s e base now × FileHolds (next makes s e) now told content

module _ (makes : Makes) (clock : Clock) where
  -- what an entry makes of the dead letter queue, where these are told behind it
  abbrev pub DeadAfter : State → Entry → List Entry → Held → Held → Type 0
  DeadAfter s (Letters batch letters) told old new = AppendsOf s.limits clock (shed_in s.between) letters told (out_of batch s.out) old new
  DeadAfter s (Opened rows limit policy) told old new = (new ≡ old) ⊎ DeadLeft clock s old new
  DeadAfter s (Deliver batch at events fates) told old new = new ≡ old
  DeadAfter s (Accept input parcel number event) told old new = new ≡ old
  DeadAfter s (Mark front) told old new = new ≡ old
  DeadAfter s (Assure input front) told old new = new ≡ old
  DeadAfter s (Read batch generation numbers) told old new = new ≡ old
  DeadAfter s (Back batch verdicts) told old new = new ≡ old
  DeadAfter s (Shed batch older newer) told old new = new ≡ old
  DeadAfter s (Ack batch) told old new = new ≡ old
  DeadAfter s (Purge page) told old new = new ≡ old
  DeadAfter s (Adopt generation config draws) told old new = new ≡ old

  abbrev pub DeadHolds : State → Held → List Entry → Held → Type 0
  DeadHolds s base [] content = content ≡ base
  DeadHolds s base (e ∷ told) content = (now : Held) × DeadAfter s e told base now × DeadHolds (next makes s e) now told content
