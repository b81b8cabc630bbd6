-- What a pipeline does that others can know of: it tells entries, sends parcels to addresses, and hears answers from there. Which runs of this are legal.
use Rattle.std.specs.Prelude.{◌≡◌, ◌<◌, ◌==◌, ◌&&◌, not, ℕ, Bool, true, false, List, [], ◌∷◌, ◌++◌, length, bytes_eq, if◌then◌else◌, ⊤}
use Rattle.event_tree.specs.Events.{Ev}
use Rattle.foreign_parts.specs.declared.output.Fate.{Fate}
use Rattle.foreign_parts.specs.declared.place.Place.{Place}
use Rattle.foreign_parts.specs.declared.place.Place.TheVariants as place
use Rattle.pipeline_bus.specs.Parcels.{is_last, with_events, HasNextNumber, IsInTurn}
use Rattle.pipeline_bus.specs.declared.parcel.Answer.{Answer}
use Rattle.pipeline_bus.specs.declared.parcel.Heard.{Heard}
use Rattle.pipeline_bus.specs.declared.parcel.Heard.TheVariants.{Assured, NotListening}
use Rattle.pipeline_bus.specs.declared.parcel.Parcel.{Parcel}
use Rattle.event_flow.specs.Meaning.{Makes, Due}
use Rattle.event_flow.specs.Meaning as due
use Rattle.history_book.specs.Entries.{Entry, Accept, Mark, Assure, Read, Back, Shed, Deliver, Letters, Ack, Purge, Adopt, Opened}
use Rattle.history_book.specs.Legal.{Legal_at, Legal}
use Rattle.history_book.specs.Lists.{IsIn}
use Rattle.history_book.specs.States.{Out, State, start, next, after}
use Rattle.history_book.specs.Steps.{NoOpening}

pub data Deed : Type 0 where
  -- it told an entry
  Tell : (entry : Entry) → Deed
  -- it sent a parcel to an address
  Send : (address : List ℕ) (parcel : Parcel) → Deed
  -- it heard an answer from there
  Hear : (address : List ℕ) (answer : Answer) → Deed

-- the entries among them
abbrev pub told_of : List Deed → List Entry
told_of [] = []
told_of (Tell entry ∷ deeds) = entry ∷ told_of deeds
told_of (Send address parcel ∷ deeds) = told_of deeds
told_of (Hear address answer ∷ deeds) = told_of deeds

-- entries alone, as deeds
abbrev pub tell_all : List Entry → List Deed
tell_all [] = []
tell_all (e ∷ told) = Tell e ∷ tell_all told

-- ---- what was sent and heard

pub record SentTo : Type 0 where
  pub address : List ℕ
  pub parcel : Parcel

pub record HeardFrom : Type 0 where
  pub address : List ℕ
  pub answer : Answer

-- since the pipeline was last opened, in order
pub record Mail : Type 0 where
  pub sent : List SentTo
  pub heard : List HeardFrom

abbrev pub no_mail : Mail
no_mail = record { sent = []; heard = [] }

-- behind an opening there is none
abbrev pub mail_told : Mail → Entry → Mail
mail_told m (Opened rows limit policy) = no_mail
mail_told m (Accept input parcel number event) = m
mail_told m (Mark front) = m
mail_told m (Assure input front) = m
mail_told m (Read batch generation numbers) = m
mail_told m (Back batch verdicts) = m
mail_told m (Shed batch older newer) = m
mail_told m (Deliver batch at events fates) = m
mail_told m (Letters batch letters) = m
mail_told m (Ack batch) = m
mail_told m (Purge page) = m
mail_told m (Adopt generation config draws) = m

abbrev pub mail_next : Mail → Deed → Mail
mail_next m (Tell entry) = mail_told m entry
mail_next m (Send address parcel) = record m { sent = m.sent ++ record { address = address; parcel = parcel } ∷ [] }
mail_next m (Hear address answer) = record m { heard = m.heard ++ record { address = address; answer = answer } ∷ [] }

abbrev pub mail_after : Mail → List Deed → Mail
mail_after m [] = m
mail_after m (deed ∷ deeds) = mail_after (mail_next m deed) deeds

-- the parcels that were sent to this address, and the answers that were heard from there
abbrev pub sent_on : List ℕ → List SentTo → List Parcel
sent_on address [] = []
sent_on address (s ∷ sent) = if bytes_eq address s.address then s.parcel ∷ sent_on address sent else sent_on address sent

abbrev pub heard_on : List ℕ → List HeardFrom → List Answer
heard_on address [] = []
heard_on address (h ∷ heard) = if bytes_eq address h.address then h.answer ∷ heard_on address heard else heard_on address heard

-- ---- answers that say that a parcel is assured

-- the events of the parcel of this number, which was sent to the address, stand with its listener
pub record Assurance : Type 0 where
  pub address : List ℕ
  pub number : ℕ
  pub events : List Ev

abbrev pub says_assured : Heard → Bool
says_assured Assured = true
says_assured NotListening = false

-- an answer says so of the parcel with events that has its number, of those that were sent there
abbrev pub assures : Answer → Parcel → Bool
assures a p = says_assured a.answer && (not (is_last p) && (p.number == a.number))

abbrev pub assured_by : List ℕ → Answer → List Parcel → List Assurance
assured_by address a [] = []
assured_by address a (p ∷ ps) = if assures a p then record { address = address; number = p.number; events = p.events } ∷ assured_by address a ps else assured_by address a ps

-- One of these answers serves a delivery of the events to the address: it is an answer to a parcel of exactly these events. The others are left.
pub record Serves (address : List ℕ) (events : List Ev) (unused left : List Assurance) : Type 0 where
  pub front : List Assurance
  pub assurance : Assurance
  pub back : List Assurance
  pub parts : unused ≡ front ++ assurance ∷ back
  pub address_is : assurance.address ≡ address
  pub events_are : assurance.events ≡ events
  pub left_is : left ≡ front ++ back

-- What a delivery leaves of the answers that served none yet: one to an address takes one of its own.
abbrev pub ServesAt : Place → List Ev → List Assurance → List Assurance → Type 0
ServesAt (place.Address address) events old new = Serves address events old new
ServesAt place.Stdout events old new = new ≡ old
ServesAt (place.File path) events old new = new ≡ old
ServesAt (place.Foreign number) events old new = new ≡ old
ServesAt place.Discard events old new = new ≡ old
ServesAt place.Dead events old new = new ≡ old

-- so does an entry; behind an opening there are none
abbrev pub LeavesUnused : Entry → List Assurance → List Assurance → Type 0
LeavesUnused (Deliver batch at events fates) old new = ServesAt at events old new
LeavesUnused (Opened rows limit policy) old new = new ≡ []
LeavesUnused (Accept input parcel number event) old new = new ≡ old
LeavesUnused (Mark front) old new = new ≡ old
LeavesUnused (Assure input front) old new = new ≡ old
LeavesUnused (Read batch generation numbers) old new = new ≡ old
LeavesUnused (Back batch verdicts) old new = new ≡ old
LeavesUnused (Shed batch older newer) old new = new ≡ old
LeavesUnused (Letters batch letters) old new = new ≡ old
LeavesUnused (Ack batch) old new = new ≡ old
LeavesUnused (Purge page) old new = new ≡ old
LeavesUnused (Adopt generation config draws) old new = new ≡ old

-- ---- legal deeds

-- a delivery of these events to the address is the next that is due of a batch
pub record IsNextFor (s : State) (address : List ℕ) (events : List Ev) : Type 0 where
  pub out : Out
  pub is_out : IsIn out s.out
  pub id : List ℕ
  pub left : List Due
  pub next : out.left ≡ due.Events id (place.Address address) events ∷ left

-- the parcel is the next on its way to the address, and what events it has are the next delivery to there that is due of a batch
pub record MaySend (s : State) (sent : List Parcel) (address : List ℕ) (p : Parcel) : Type 0 where
  pub address_is : p.address ≡ address
  pub in_turn : HasNextNumber sent p
  pub due : is_last p ≡ false → IsNextFor s address p.events

-- the answer is of the oldest parcel with events that has none
pub record MayHear (sent : List Parcel) (heard : List Answer) (a : Answer) : Type 0 where
  pub in_turn : IsInTurn heard a
  pub waits : length heard < with_events sent

module _ (makes : Makes) where
  -- What a pipeline does where it stands so, with this mail and these answers that served no delivery yet, leaves those: each entry is legal; each delivery to an
  -- address is told once an answer was heard, since the pipeline was opened, that says that a parcel of exactly these events is assured, and each such answer serves
  -- one; what is sent is due then, and answers come in turn.
  abbrev pub Leaves : State → Mail → List Assurance → List Deed → List Assurance → Type 0
  Leaves s mail unused [] left = left ≡ unused
  Leaves s mail unused (Tell entry ∷ deeds) left =
      Legal_at makes s entry × ((now : List Assurance) × LeavesUnused entry unused now × Leaves (next makes s entry) (mail_told mail entry) now deeds left)
  Leaves s mail unused (Send address p ∷ deeds) left = MaySend s (sent_on address mail.sent) address p × Leaves s (mail_next mail (Send address p)) unused deeds left
  Leaves s mail unused (Hear address a ∷ deeds) left =
      MayHear (sent_on address mail.sent) (heard_on address mail.heard) a
      × Leaves s (mail_next mail (Hear address a)) (unused ++ assured_by address a (sent_on address mail.sent)) deeds left

  -- Behind entries of an earlier run, of which no parcel is on its way and no answer is left; behind none of them from the beginning on.
  abbrev pub LegalBehind : List Entry → List Deed → Type 0
  LegalBehind told deeds = (left : List Assurance) × Leaves (after makes start told) no_mail [] deeds left

  -- A pipeline told this in earlier runs, and did that since legally, all together; and these answers served no delivery yet.
  pub record DidLegally (earlier : List Entry) (deeds : List Deed) (left : List Assurance) : Type 0 where
    pub since : List Deed
    pub parts : deeds ≡ tell_all earlier ++ since
    pub legal : Leaves (after makes start earlier) no_mail [] since left

-- ---- several pipelines

-- what one of them did, by its number
pub record DeedOf : Type 0 where
  pub line : ℕ
  pub deed : Deed

abbrev pub deeds_by : ℕ → List DeedOf → List Deed
deeds_by k [] = []
deeds_by k (d ∷ done) = if k == d.line then d.deed ∷ deeds_by k done else deeds_by k done

-- nothing was sent and nothing heard
abbrev pub AreTold : List DeedOf → Type 0
AreTold [] = ⊤
AreTold (d ∷ done) = ((entry : Entry) × (d.deed ≡ Tell entry)) × AreTold done

-- what a pipeline does first is its opening
abbrev pub BeginsOpened : List Deed → Type 0
BeginsOpened [] = ⊤
BeginsOpened (Tell (Opened rows limit policy) ∷ deeds) = ⊤
BeginsOpened (d ∷ deeds) = ⊥

-- what this pipeline told
abbrev pub told_by : ℕ → List DeedOf → List Entry
told_by k done = told_of (deeds_by k done)

-- what it sent and heard since it was last opened
abbrev pub mail_of : ℕ → List DeedOf → Mail
mail_of k done = mail_after no_mail (deeds_by k done)

-- ---- laws

-- What is legal so tells a history that is legal behind those entries.
abbrev pub LegalDeedsTell : Type 0
LegalDeedsTell = (makes : Makes) (told : List Entry) (deeds : List Deed) → LegalBehind makes told deeds → Legal makes (after makes start told) (told_of deeds)

-- what was legal with more behind it was so at each moment
abbrev pub FrontsOfDeedsAreLegal : Type 0
FrontsOfDeedsAreLegal = (makes : Makes) (told : List Entry) (deeds more : List Deed) → LegalBehind makes told (deeds ++ more) → LegalBehind makes told deeds

-- An answer was heard from the address, and so it still is in the mail, that a parcel of exactly these events is assured.
pub record IsAnswered (mail : Mail) (address : List ℕ) (events : List Ev) : Type 0 where
  pub parcel : Parcel
  pub sent : IsIn parcel (sent_on address mail.sent)
  pub some : is_last parcel ≡ false
  pub events_are : parcel.events ≡ events
  pub heard : IsIn (record { number = parcel.number; answer = Assured }) (heard_on address mail.heard)

-- Behind each delivery to an address that was told since the pipeline was last opened, it has such an answer: whatever it had told in an earlier run.
abbrev pub DeliveriesAreAnswered : Type 0
DeliveriesAreAnswered =
    (makes : Makes) (told : List Entry) (deeds : List Deed) → LegalBehind makes told deeds → (before : List Entry) (batch : ℕ) (address : List ℕ) (events : List Ev) (fates : List Fate) (rest : List Entry)
    → told_of deeds ≡ before ++ Deliver batch (place.Address address) events fates ∷ rest → NoOpening rest → IsAnswered (mail_after no_mail deeds) address events
