-- A line as one of the pipelines of a run: its inputs by the looks that they made, the ends at which it listens as links, and what stands there once it is at rest, or was
-- told to stop and has come to an end.
use Rattle.std.specs.Prelude.{◌≡◌, ◌⊎◌, ℕ, Bool, true, false, List, [], ◌∷◌, ◌++◌, map, None}
use Rattle.io_traits.specs.Folders.{Content}
use Rattle.io_traits.specs.Images.{Image}
use Rattle.event_flow.specs.Meaning.{Makes}
use Rattle.history_book.specs.Contents.{Bytes}
use Rattle.history_book.specs.Deeds.{DeedOf, deeds_by, told_by, AreTold, LegalBehind}
use Rattle.history_book.specs.Ends as run
use Rattle.history_book.specs.Ends.{AreAnswered}
use Rattle.history_book.specs.Entries.{Entry}
use Rattle.history_book.specs.Holdings.{StopLeaves}
use Rattle.history_book.specs.Links.{Listening, Link, TakerSound}
use Rattle.history_book.specs.Lists.{IsIn}
use Rattle.history_book.specs.Runs.{Meanings, Bases, PipelineSound}
use Rattle.history_book.specs.Sound.{Places}
use Rattle.history_book.specs.Sources.{SourceLook, Sources, InputsSound}
use Rattle.history_book.specs.Watched.{WatchedFile, PositionSound}
use Rattle.line_machine.specs.Answering.{LinksStand}
use Rattle.line_machine.specs.Choices.{NoneLost}
use Rattle.line_machine.specs.Ends.{TakerView}
use Rattle.line_machine.specs.Lines.{LineStands}
use Rattle.line_machine.specs.Resting.{IsAtRest, IsAtStop}
use Rattle.line_machine.specs.Steps as m
use Rattle.line_machine.specs.Steps.{Step}
use Rattle.line_machine.specs.Views.{Incoming, InputView, LineView}

-- ---- links

-- the link whose end this is, at which the pipeline of this number listens
pub record IsLinkOf (k : ℕ) (t : TakerView) (l : Link) : Type 0 where
  pub to : l.to ≡ k
  pub address_is : l.address ≡ t.address
  pub place_is : l.place ≡ t.place
  pub taken_is : l.taken ≡ t.taken
  pub given_is : l.given ≡ t.given

-- The links that end at a pipeline are those of the ends that its line has, and of ends that it gave back, where each parcel with events has its answer.
pub record AreLinksOf (k : ℕ) (links : List Link) (ts : List TakerView) : Type 0 where
  pub there : (t : TakerView) → IsIn t ts → (l : Link) × IsIn l links × IsLinkOf k t l
  pub each : (l : Link) → IsIn l links → l.to ≡ k → ((t : TakerView) × IsIn t ts × IsLinkOf k t l) ⊎ AreAnswered l.taken l.given

-- A line that was told to stop goes on with each end that it has of a link whose sender drains.
abbrev pub GoesOnWith : (ℕ → Bool) → ℕ → List Link → {places : Places} → LineView places → Type 0
GoesOnWith drains k links i = (t : TakerView) (l : Link) → IsIn t i.takers → IsIn l links → IsLinkOf k t l → run.IsServed drains l → IsIn t.place i.going

-- ---- looks

module _ (listening : Listening) (sources : Sources) {places : Places} where
  -- What the looks of an input gave is what came to it; and where the line knows it at its end, and wasn't told to stop, nothing comes by them any more.
  pub record AreLooksOf (i : LineView places) (v : InputView) (came : List Incoming) (looks : List SourceLook) : Type 0 where
    pub gave : sources.gives v.statement looks ≡ map (λ (x : Incoming). x.event) came
    pub ended : i.stopped ≡ false → v.ended ≡ true → sources.ends v.statement looks ≡ true

  -- so it is with each open input that listens on no address
  abbrev pub LooksStand : LineView places → (ℕ → List Incoming) → (ℕ → List SourceLook) → Type 0
  LooksStand i came looks = (v : InputView) → IsIn v i.inputs → v.is_open ≡ true → listening.address v.statement ≡ None → AreLooksOf i v (came v.number) (looks v.number)

module _ (makes : Makes) (listening : Listening) (bytes : Bytes) (places : Places) where
  -- What a line stands for in a run: what came to its inputs is accepted or held, and what it took at its ends and answered agrees with what it told.
  abbrev pub InputsAreSound : Type 0
  InputsAreSound =
      (sources : Sources) (earlier : List Entry) (came : ℕ → List Incoming) (i : LineView places) (done : List DeedOf) (k : ℕ) (looks : ℕ → List SourceLook)
      → LineStands makes listening bytes places earlier (deeds_by k done) came i → LooksStand listening sources i came looks → InputsSound makes listening sources (told_by k done) looks

  abbrev pub TakersAreSound : Type 0
  TakersAreSound =
      (earlier : List Entry) (came : ℕ → List Incoming) (i : LineView places) (done : List DeedOf) (k : ℕ) (t : TakerView) (l : Link)
      → LineStands makes listening bytes places earlier (deeds_by k done) came i → IsIn t i.takers → IsLinkOf k t l → TakerSound makes listening (told_by k done) l

  -- What it did in a run is legal behind what it had told in earlier ones.
  abbrev pub LinesDoLegally : Type 0
  LinesDoLegally =
      (came : ℕ → List Incoming) (i : LineView places) (first since : List DeedOf) (k : ℕ) → AreTold first
      → LineStands makes listening bytes places (told_by k first) (deeds_by k (first ++ since)) came i → LegalBehind makes (told_by k first) (deeds_by k since)

  -- the end that a step gives back
  abbrev pub released : (i : LineView places) → Step makes listening bytes i → List TakerView
  released i (m.Releases place t has free) = t ∷ []
  released i x = []

  -- There each parcel with events that was taken has its answer.
  abbrev pub ReleasedAreAnswered : Type 0
  ReleasedAreAnswered =
      (told : List Entry) (i : LineView places) (x : Step makes listening bytes i) → LinksStand makes listening told i.takers i.next_place → (t : TakerView) → IsIn t (released i x) → AreAnswered t.taken t.given

  -- A pipeline whose line is at rest is done, with whatever a stop leaves of its store.
  abbrev pub RestIsDoneThere : Type 0
  RestIsDoneThere =
      (sources : Sources) (earlier : List Entry) (came : ℕ → List Incoming) (i : LineView places) (done : List DeedOf) (links : List Link) (k : ℕ) (looks : ℕ → List SourceLook) (image : Image)
      → LineStands makes listening bytes places earlier (deeds_by k done) came i → LooksStand listening sources i came looks → AreLinksOf k links i.takers → IsAtRest listening i
      → StopLeaves makes bytes places (told_by k done) i.holds image → run.IsDone makes listening sources places done links k looks image

  -- One whose line was told to stop and has come to an end is stopped, where no result of a batch was lost, and it goes on with each end of a link whose sender drains.
  abbrev pub StopIsStoppedThere : Type 0
  StopIsStoppedThere =
      (sources : Sources) (earlier : List Entry) (came : ℕ → List Incoming) (i : LineView places) (done : List DeedOf) (links : List Link) (k : ℕ) (drains : ℕ → Bool) (image : Image)
      → LineStands makes listening bytes places earlier (deeds_by k done) came i → NoneLost i → AreLinksOf k links i.takers → GoesOnWith drains k links i → (drains k ≡ true → i.drains ≡ true)
      → IsAtStop listening i → StopLeaves makes bytes places (told_by k done) i.holds image → run.IsStopped makes listening sources places done links k drains image

-- A pipeline agrees with whatever a stop leaves of its store, where the recorded positions do.
abbrev pub PipelinesAreSound : Type 0
PipelinesAreSound =
    (m : Meanings) (bases : Bases) (earlier : List Entry) (came : ℕ → List Incoming) (done : List DeedOf) (k : ℕ) (i : LineView (bases.places k)) (files : Content) (image : Image)
    → LineStands m.makes m.listening m.bytes (bases.places k) earlier (deeds_by k done) came i → StopLeaves m.makes m.bytes (bases.places k) (told_by k done) i.holds image
    → ((file : WatchedFile) → IsIn file (bases.watched k) → PositionSound m.listening m.sources m.makes (told_by k done) files image file)
    → PipelineSound m bases k (told_by k done) files image
