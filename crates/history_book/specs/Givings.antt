-- What stdout and boxes were given by all pipelines of a run, since any of them was last opened.
use Rattle.std.specs.Prelude.{◌≡◌, ◌⊎◌, ℕ, List, [], ◌∷◌, ◌++◌, Some, ⊤}
use Rattle.event_tree.specs.Events.{Ev}
use Rattle.foreign_parts.specs.Delivering.{taken}
use Rattle.foreign_parts.specs.declared.place.Place.TheVariants as place
use Rattle.event_flow.specs.Meaning.{Makes, Due}
use Rattle.event_flow.specs.Meaning as due
use Rattle.history_book.specs.Contents.{Bytes, next_bytes, is_stdout}
use Rattle.history_book.specs.Deeds.{Deed, Tell, Send, Hear, DeedOf, told_by}
use Rattle.history_book.specs.Entries.{Entry, Opened}
use Rattle.history_book.specs.Laws.{Tells, WasTold, fates_of}
use Rattle.history_book.specs.Lists.{IsIn}
use Rattle.history_book.specs.States.{Plan, Out, State, start, out_of, after}
use Rattle.history_book.specs.Steps.{NoOpening, printed_in, given_in}

-- the deed is no opening
abbrev pub OpensNone : Deed → Type 0
OpensNone (Tell e) = NoOpening (e ∷ [])
OpensNone (Send address p) = ⊤
OpensNone (Hear address a) = ⊤

-- no pipeline is opened
abbrev pub NoneOpened : List DeedOf → Type 0
NoneOpened [] = ⊤
NoneOpened (d ∷ done) = OpensNone d.deed × NoneOpened done

-- ---- what entries give

module _ {X : Type 0} (makes : Makes) (gives : State → Entry → List X) where
  -- what an entry adds, by where its pipeline stands; an opening begins anew
  abbrev pub with_entry : List X → State → Entry → List X
  with_entry old s (Opened rows limit policy) = []
  with_entry old s e = old ++ gives s e

  -- so does a deed of this pipeline, where all of them did this before
  abbrev pub with_deed : List DeedOf → List X → ℕ → Deed → List X
  with_deed before old k (Tell e) = with_entry old (after makes start (told_by k before)) e
  with_deed before old k (Send address p) = old
  with_deed before old k (Hear address a) = old

  abbrev pub given_from : List DeedOf → List X → List DeedOf → List X
  given_from before old [] = old
  given_from before old (d ∷ done) = given_from (before ++ d ∷ []) (with_deed before old d.line d.deed) done

  abbrev pub given_by : List DeedOf → List X
  given_by done = given_from [] [] done

module _ (makes : Makes) where
  -- what stdout was given since any pipeline was last opened, and the events that a box took
  abbrev pub all_printed : Bytes → List DeedOf → List ℕ
  all_printed bytes done = given_by makes (printed_in bytes) done

  abbrev pub all_given : ℕ → List DeedOf → List Ev
  all_given number done = given_by makes (λ s. given_in number) done

-- ---- what they took

-- some of these events, in their order
abbrev pub AreSome : List Ev → List Ev → Type 0
AreSome [] es = ⊤
AreSome (x ∷ xs) [] = ⊥
AreSome (x ∷ xs) (e ∷ es) = ((x ≡ e) × AreSome xs es) ⊎ AreSome (x ∷ xs) es

-- the next delivery of a batch that is out at a pipeline
pub record IsOutNow (makes : Makes) (done : List DeedOf) : Type 0 where
  pub line : ℕ
  pub out : Out
  pub is_out : IsIn out (after makes start (told_by line done)).out

-- Stdout took what was told, or that and the first bytes of one delivery more that was the next of a batch.
pub record TookMore (makes : Makes) (bytes : Bytes) (done : List DeedOf) (took : List ℕ) : Type 0 where
  pub of : IsOutNow makes done
  pub part : List ℕ
  pub rest : List ℕ
  pub parts : next_bytes bytes is_stdout (Some of.out) ≡ part ++ rest
  pub took_is : took ≡ all_printed makes bytes done ++ part

abbrev pub StdoutTook : Makes → Bytes → List DeedOf → List ℕ → Type 0
StdoutTook makes bytes done took = (took ≡ all_printed makes bytes done) ⊎ TookMore makes bytes done took

-- A box took what was told, or that and some events from the front of one delivery more that was the next of a batch: it may have rejected others of them.
pub record BoxTookMore (makes : Makes) (number : ℕ) (done : List DeedOf) (took : List Ev) : Type 0 where
  pub of : IsOutNow makes done
  pub id : List ℕ
  pub events : List Ev
  pub left : List Due
  pub next : of.out.left ≡ due.Events id (place.Foreign number) events ∷ left
  pub part : List Ev
  pub some : AreSome part events
  pub took_is : took ≡ all_given makes number done ++ part

abbrev pub BoxTook : Makes → ℕ → List DeedOf → List Ev → Type 0
BoxTook makes number done took = (took ≡ all_given makes number done) ⊎ BoxTookMore makes number done took

-- ---- laws

-- a delivery was told by this pipeline at a moment of the run, when it was the next of a batch with this plan
pub record WasDone (makes : Makes) (done : List DeedOf) (k : ℕ) (plan : Plan) (d : Due) : Type 0 where
  pub before : List DeedOf
  pub entry : Entry
  pub rest : List DeedOf
  pub parts : done ≡ before ++ record { line = k; deed = Tell entry } ∷ rest
  pub batch : ℕ
  pub tells : Tells entry batch d
  pub out : Out
  pub was_out : out_of batch (after makes start (told_by k before)).out ≡ Some out
  pub plan_is : out.plan ≡ plan
  pub left : List Due
  pub next : out.left ≡ d ∷ left

-- each delivery that a pipeline told was told at such a moment
abbrev pub ToldWereDone : Type 0
ToldWereDone = (makes : Makes) (done : List DeedOf) (k : ℕ) (plan : Plan) (d : Due) → WasTold makes start (told_by k done) plan d → WasDone makes done k plan d

-- What was told of stdout and of a box since any pipeline was last opened stands in what it was given: the bytes of the events, and the events that the box took.
abbrev pub RunsGiveToStdout : Type 0
RunsGiveToStdout =
    (makes : Makes) (bytes : Bytes) (done : List DeedOf) (k : ℕ) (plan : Plan) (id : List ℕ) (events : List Ev) → (w : WasDone makes done k plan (due.Events id place.Stdout events))
    → NoneOpened w.rest → (front : List ℕ) × (back : List ℕ) × (all_printed makes bytes done ≡ front ++ bytes plan.config id events ++ back)

abbrev pub RunsGiveToBoxes : Type 0
RunsGiveToBoxes =
    (makes : Makes) (number : ℕ) (done : List DeedOf) (k : ℕ) (plan : Plan) (id : List ℕ) (events : List Ev) → (w : WasDone makes done k plan (due.Events id (place.Foreign number) events))
    → NoneOpened w.rest → (front : List Ev) × (back : List Ev) × (all_given makes number done ≡ front ++ taken (fates_of w.entry) events ++ back)
