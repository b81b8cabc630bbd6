-- Several pipelines in one run: what each did, and the links between them.
use Rattle.std.specs.Prelude.{◌≡◌, ◌≢◌, ◌⊎◌, ℕ, zero, suc, not, true, false, List, [], ◌∷◌, ◌++◌, flat_map, Option, Some, None, ⊤}
use Rattle.std.specs.List.{filter}
use Rattle.io_traits.specs.Images.{Image}
use Rattle.event_tree.specs.Events.{Ev}
use Rattle.config_tree.specs.declared.tree.Config.{Config}
use Rattle.foreign_parts.specs.declared.place.Place.TheVariants as place
use Rattle.pipeline_bus.specs.Parcels.{is_last}
use Rattle.pipeline_bus.specs.declared.parcel.Answer.{Answer}
use Rattle.pipeline_bus.specs.declared.parcel.Parcel.{Parcel}
use Rattle.event_flow.specs.Meaning.{Makes}
use Rattle.event_flow.specs.Meaning as due
use Rattle.event_flow.specs.Places.{Draws}
use Rattle.queue_files.specs.Found.{Found}
use Rattle.history_book.specs.Contents.{Bytes}
use Rattle.history_book.specs.Deeds.{DeedOf, heard_on, deeds_by, told_by, mail_of, AreTold, BeginsOpened, LegalBehind}
use Rattle.history_book.specs.Entries.{Entry, ParcelAt, Accept, Adopt}
use Rattle.history_book.specs.Inputs.{Input, IsInput}
use Rattle.history_book.specs.Laws.{WasTold}
use Rattle.history_book.specs.Legal.{Legal, Fits, IsFound}
use Rattle.history_book.specs.Links.{Listening, Link, LinkSound, Closes, AllArrived, IsSettledRow, StandsThere, assured, not_listening}
use Rattle.history_book.specs.Lists.{IsIn}
use Rattle.history_book.specs.Sound.{Places, LineSound, AllStands}
use Rattle.history_book.specs.States.{Plan, Written, State, start, written, next, after}
use Rattle.history_book.specs.Steps.{NoOpening, steps_of}

-- of one pipeline an opening comes before anything else that it does in a step
abbrev pub OpensFirst : List DeedOf → Type 0
OpensFirst [] = ⊤
OpensFirst (d ∷ done) = NoOpening (told_by d.line done) × OpensFirst done

-- ---- links

-- these are the first of those
abbrev pub IsFront : {X : Type 0} → List X → List X → Type 0
IsFront {X} front whole = (more : List X) × (whole ≡ front ++ more)

-- the same link, through which more went
pub record GoesOn (old new : Link) : Type 0 where
  pub from : new.from ≡ old.from
  pub to : new.to ≡ old.to
  pub address : new.address ≡ old.address
  pub place : new.place ≡ old.place
  pub taken_there : IsFront old.takes.taken new.takes.taken
  pub given_there : IsFront old.takes.given new.takes.given
  pub taken : IsFront old.taken new.taken
  pub given : IsFront old.given new.given

-- a pipeline is opened in a step, if one it is
abbrev pub Unopened : Option ℕ → List DeedOf → Type 0
Unopened None step = ⊤
Unopened (Some k) step = NoOpening (told_by k step)

-- By what was done before a step, and in it.
module _ (makes : Makes) (listening : Listening) (before step : List DeedOf) where
  -- in the step a configuration was adopted that closed the listener of the link
  pub record LosesListener (l : Link) : Type 0 where
    pub front : List Entry
    pub generation : ℕ
    pub config : Config
    pub draws : Draws
    pub rest : List Entry
    pub parts : told_by l.to step ≡ front ++ Adopt generation config draws ∷ rest
    pub closes : (let s = after makes start (told_by l.to before ++ front) in Closes listening l.address s.plans (next makes s (Adopt generation config draws)).plans)

  -- where that is so, the parcels with events that lie in the ring are lost, and else none is
  abbrev pub LosesSo : Link → Link → Type 0
  LosesSo old new = (new.lost ≡ old.lost) ⊎ (LosesListener new × (old.lost ≡ []) × (new.lost ≡ filter (λ (p : Parcel). not (is_last p)) new.takes.room))

  -- the link went on by the step, in which its listener wasn't opened
  pub record WentOn (old new : Link) : Type 0 where
    pub unopened : NoOpening (told_by old.to step)
    pub goes_on : GoesOn old new
    pub loses : LosesSo old new

  -- behind the step no pipeline has an open input that listens on the address
  abbrev pub NobodyListens : List ℕ → Type 0
  NobodyListens address =
      (k : ℕ) (x : Input) → IsInput (after makes start (told_by k (before ++ step))).plans x.number x → x.is_open ≡ true → listening.address x.statement ≡ Some address → ⊥

  -- by a link from outside to this address, and as its list of answers says, the answer was given to the parcel of this number that nobody listens
  pub record IsGivenOutside (links : List Link) (answers : Link → List Answer) (address : List ℕ) (number : ℕ) : Type 0 where
    pub link : Link
    pub is_link : IsIn link links
    pub from : link.from ≡ None
    pub to_address : link.address ≡ address
    pub given : IsIn (not_listening number) (answers link)

  -- Each link that stood stands, unless one of its pipelines was opened; by another one nothing was lost yet. What sends from outside gets the answer that nobody listens from a
  -- listener of the address, or where there is none behind the step.
  pub record LinksGoOn (old new : List Link) : Type 0 where
    pub stand : (l : Link) → IsIn l old → Unopened l.from step → NoOpening (told_by l.to step) → (m : Link) × IsIn m new × WentOn l m
    pub begin : (m : Link) → IsIn m new → ((l : Link) × IsIn l old × WentOn l m) ⊎ (m.lost ≡ [])
    pub outside : (m : Link) → IsIn m new → m.from ≡ None → (number : ℕ) → IsIn (not_listening number) m.takes.given
        → IsGivenOutside old (λ l. l.takes.given) m.address number ⊎ IsGivenOutside new (λ l. l.given) m.address number ⊎ NobodyListens m.address

-- it was heard from a listener of the address that the parcel of this number is assured
pub record IsGivenBy (links : List Link) (k : ℕ) (address : List ℕ) (number : ℕ) : Type 0 where
  pub link : Link
  pub is_link : IsIn link links
  pub from : link.from ≡ Some k
  pub to_address : link.address ≡ address
  pub given : IsIn (assured number) link.given

-- ---- rows

-- the row of an event that was accepted, and the parcel that it came in
pub record Accepted : Type 0 where
  pub row : Written
  pub parcel : Option ParcelAt

abbrev pub accepted_in : State → Entry → List Accepted
accepted_in s (Accept input parcel number event) = record { row = written s input number event; parcel = parcel } ∷ []
accepted_in s e = []

-- since the pipeline was last opened
abbrev pub accepted : Makes → List Entry → List Accepted
accepted makes told = flat_map (λ step. accepted_in step.before step.entry) (steps_of makes told)

-- the link at which a parcel of this place and number was taken is one alone
pub record IsTakenBy (links : List Link) (k : ℕ) (at : ParcelAt) : Type 0 where
  pub link : Link
  pub is_link : IsIn link links
  pub to : link.to ≡ k
  pub place_is : link.place ≡ at.place
  pub only : (other : Link) → IsIn other links → other.to ≡ k → other.place ≡ at.place → other ≡ link
  pub parcel : Parcel
  pub taken : IsIn parcel link.taken
  pub number_is : parcel.number ≡ at.number

-- an event of an input that listens on no address came in no parcel, and each other one in a parcel of one link
abbrev pub CameIn : Listening → List Link → ℕ → Written → Option ParcelAt → Type 0
CameIn listening links k w None = (i : Input) × IsInput w.under w.input i × (listening.address i.statement ≡ None)
CameIn listening links k w (Some at) = IsTakenBy links k at

-- ---- steps

module _ (makes : Makes) (listening : Listening) where
  -- What each pipeline did since the run began, up to this step, begins with its opening and is legal behind what it had told before, and links are sound behind the step;
  -- what one listener took no other takes. Of each pipeline that did something in the step, each answer that a parcel is assured, heard since it was opened, was given
  -- by a listener of the address, and each event came as its input says. Behind a stop no link stands, and nothing is asked of a pipeline until it is opened again.
  pub record LinksSound (first since step : List DeedOf) (links : List Link) : Type 0 where
    pub opened : (k : ℕ) → BeginsOpened (deeds_by k since)
    pub legal : (k : ℕ) → LegalBehind makes (told_by k first) (deeds_by k since)
    pub sound : (l : Link) → IsIn l links → LinkSound makes listening (first ++ since) l
    pub owned : (l m : Link) → IsIn l links → IsIn m links → l.from ≡ m.from → l.address ≡ m.address → (p : Parcel) → is_last p ≡ false → IsIn p l.taken → IsIn p m.taken → l ≡ m
    pub heard : (k : ℕ) (address : List ℕ) (number : ℕ) → deeds_by k step ≢ [] → IsIn (assured number) (heard_on address (mail_of k since).heard) → IsGivenBy links k address number
    pub came : (k : ℕ) (a : Accepted) → deeds_by k step ≢ [] → IsIn a (accepted makes (told_by k (first ++ since))) → CameIn listening links k a.row a.parcel

  -- so it is behind each step, and the links go on: the last of them stand behind all steps
  abbrev pub AreSteps : List DeedOf → List DeedOf → List Link → List (List DeedOf) → List Link → Type 0
  AreSteps first since old [] last = last ≡ old
  AreSteps first since old (step ∷ steps) last =
      OpensFirst step × ((links : List Link) × LinksGoOn makes listening (first ++ since) step old links × LinksSound first (since ++ step) step links × AreSteps first (since ++ step) links steps last)

-- what was done in all steps
abbrev pub all_done : List (List DeedOf) → List DeedOf
all_done steps = flat_map (λ step. step) steps

-- What a pipeline told in this run of a delivery to an address arrived at a pipeline: there each event stands in the queue, or all was told that is due of it; whatever
-- both told since, and in folders that stops leave of them that fit what they told.
abbrev pub DeliveriesReach : Type 0
DeliveriesReach =
    (makes : Makes) (listening : Listening) (first : List DeedOf) (steps : List (List DeedOf)) (last : List Link) (found : ℕ → Found) → AreTold first
    → AreSteps makes listening first [] [] steps last → ((n : ℕ) → Legal makes start (told_by n (first ++ all_done steps)))
    → ((n : ℕ) → Fits (after makes start (told_by n (first ++ all_done steps))) (found n))
    → (k : ℕ) (address : List ℕ) (plan : Plan) (id : List ℕ) (events : List Ev)
    → WasTold makes start (told_by k (first ++ all_done steps)) plan (due.Events id (place.Address address) events)
    → WasTold makes start (told_by k first) plan (due.Events id (place.Address address) events)
    ⊎ ((to : ℕ) × AllArrived listening address events (StandsThere makes (told_by to (first ++ all_done steps)) (found to)))

-- ---- all that an event is for

module _ (makes : Makes) (listening : Listening) (bytes : Bytes) (places : ℕ → Places) (images : ℕ → Image) (first since : List DeedOf) (found : ℕ → Found) where
  -- All stands that was due of a row of this pipeline, as it stands by itself; and what was delivered in this run to other pipelines arrived there, and stands there in
  -- this sense. (What was delivered in an earlier run was so when that ended.)
  pub record StandsEverywhere (stands : ℕ → Written → Type 0) (k : ℕ) (w : Written) : Type 0 where
    pub here : AllStands makes bytes (places k) (told_by k (first ++ since)) (images k) w
    pub elsewhere : (id address : List ℕ) (events : List Ev) → IsIn (due.Events id (place.Address address) events) here.delivered.out.told
        → WasTold makes start (told_by k first) here.delivered.out.plan (due.Events id (place.Address address) events)
        ⊎ ((to : ℕ) × AllArrived listening address events (stands to))

  -- A row that is settled stands unacknowledged in the queue of its pipeline, or all stands that was due of it; and so does each row that was made of it elsewhere, over
  -- so many links.
  abbrev pub StandsOver : ℕ → ℕ → Written → Type 0
  StandsOver zero k w = IsSettledRow makes (told_by k (first ++ since)) w
  StandsOver (suc links) k w = IsSettledRow makes (told_by k (first ++ since)) w × (IsFound (found k).rows w ⊎ StandsEverywhere (StandsOver links) k w)

-- A row that is settled stands unacknowledged in the queue of its pipeline, or all stands that its configuration derives from it: in files, in the dead letters,
-- and in other pipelines, over any number of links; in whatever stops leave of all of them that agrees with what each told. So it is with an event that was
-- acknowledged to its input.
abbrev pub EverythingStands : Type 0
EverythingStands =
    (makes : Makes) (listening : Listening) (bytes : Bytes) (places : ℕ → Places) (images : ℕ → Image) (first : List DeedOf) (steps : List (List DeedOf)) (last : List Link)
    (links k : ℕ) (before rest : List Entry) (w : Written) → AreTold first → AreSteps makes listening first [] [] steps last
    → (sound : (n : ℕ) → LineSound makes bytes (places n) (told_by n (first ++ all_done steps)) (images n))
    → told_by k (first ++ all_done steps) ≡ before ++ rest → IsSettledRow makes before w
    → StandsOver makes listening bytes places images first (all_done steps) (λ n. (sound n).rows) links k w
