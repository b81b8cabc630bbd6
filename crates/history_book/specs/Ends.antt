-- What a run has done where it ends: where nothing is left to do, and where it was told to stop.
use Rattle.std.specs.Prelude.{◌≡◌, ◌≢◌, ◌⊎◌, ◌≤◌, ℕ, Bool, true, false, List, [], map, Option, Some, None, Ok, ⊤}
use Rattle.io_traits.specs.Images.{Image}
use Rattle.event_flow.specs.Meaning.{Makes}
use Rattle.pipeline_bus.specs.Parcels.{is_last}
use Rattle.pipeline_bus.specs.declared.parcel.Answer.{Answer}
use Rattle.pipeline_bus.specs.declared.parcel.Parcel.{Parcel}
use Rattle.queue_files.specs.Folders.{folder_in}
use Rattle.queue_files.specs.Found.{Found, found}
use Rattle.history_book.specs.Contents.{Bytes}
use Rattle.history_book.specs.Deeds.{DeedOf, sent_on, heard_on, told_by, mail_of}
use Rattle.history_book.specs.Entries.{Entry, ParcelAt, Assure}
use Rattle.history_book.specs.Inputs.{Input, IsInput}
use Rattle.history_book.specs.Links.{Listening, Link, assured}
use Rattle.history_book.specs.Lists.{IsIn}
use Rattle.history_book.specs.Sound.{Places, LineSound, AllStands}
use Rattle.history_book.specs.Sources.{SourceLook, Sources, IsReadOut}
use Rattle.history_book.specs.States.{Written, Out, start, after}
use Rattle.history_book.specs.Steps.{Step, steps_of}
use Rattle.history_book.specs.Yards.{Accepted, accepted}

module _ (makes : Makes) (listening : Listening) (told : List Entry) where
  -- ---- what was accepted since the pipeline was last opened

  -- the input of this number was told that this row is settled
  pub record WasAssuredOf (input number : ℕ) : Type 0 where
    pub front : ℕ
    pub is_told : IsIn (Assure input front) (map (λ (s : Step). s.entry) (steps_of makes told))
    pub covers : number ≤ front

  -- the input of this number is closed
  abbrev pub IsClosed : ℕ → Type 0
  IsClosed n = (x : Input) × IsInput (after makes start told).plans n x × (x.is_open ≡ false)

  -- A row was acknowledged to its input: it was told so, or the parcel in which the event came was answered so, at a link that ends at this pipeline.
  abbrev pub IsAcknowledged : ℕ → List Link → Written → Option ParcelAt → Type 0
  IsAcknowledged k links w None = WasAssuredOf w.input w.number
  IsAcknowledged k links w (Some at) = (l : Link) × IsIn l links × (l.to ≡ k) × (l.place ≡ at.place) × IsIn (assured at.number) l.given

-- ---- parcels

-- each of these parcels that has events has one of these answers
abbrev pub AreAnswered : List Parcel → List Answer → Type 0
AreAnswered parcels answers = (p : Parcel) → IsIn p parcels → is_last p ≡ false → (a : Answer) × IsIn a answers × (a.number ≡ p.number)

-- so it is with those that a pipeline took at links of which this holds, and with those that it sent
abbrev pub TakenAnswered : List Link → ℕ → (Link → Type 0) → Type 0
TakenAnswered links k holds = (l : Link) → IsIn l links → l.to ≡ k → holds l → AreAnswered l.taken l.given

abbrev pub SentAnswered : List DeedOf → ℕ → Type 0
SentAnswered done k = (address : List ℕ) → AreAnswered (sent_on address (mail_of k done).sent) (heard_on address (mail_of k done).heard)

-- the link's sender is one of the pipelines that drain, so that its listener goes on with it
abbrev pub IsServed : (ℕ → Bool) → Link → Type 0
IsServed drains l = (j : ℕ) × (l.from ≡ Some j) × (drains j ≡ true)

-- ---- the ends

module _ (makes : Makes) (listening : Listening) (sources : Sources) (places : Places) where
  -- nothing is found in its queue, and each row was acknowledged with its batch
  pub record IsEmpty (told : List Entry) (i : Image) : Type 0 where
    pub rows : (w : Written) → IsIn w (after makes start told).rows → IsIn w.number (after makes start told).acknowledged
    pub none_found : (rows : Found) → found (folder_in places.queue i) ≡ Ok rows → rows.rows ≡ []

  -- By what all pipelines did, and by the links that stand behind it.
  module _ (done : List DeedOf) (links : List Link) (k : ℕ) where
    -- A pipeline is done: each open input that listens on no address is at its end, by its looks, and holds nothing; nothing is left in the queue or in a batch; what was
    -- accepted since it was opened was acknowledged to its input, unless that is closed; and parcels have their answers.
    pub record IsDone (looks : ℕ → List SourceLook) (i : Image) : Type 0 where
      pub ended : (x : Input) → IsInput (after makes start (told_by k done)).plans x.number x → x.is_open ≡ true → listening.address x.statement ≡ None
          → IsReadOut makes listening sources (told_by k done) (looks x.number) x
      pub empty : IsEmpty (told_by k done) i
      pub none_out : (after makes start (told_by k done)).out ≡ []
      pub known : (a : Accepted) → IsIn a (accepted makes (told_by k done)) → IsClosed makes listening (told_by k done) a.row.input
          ⊎ IsAcknowledged makes listening (told_by k done) k links a.row a.parcel
      pub taken : TakenAnswered links k (λ l. ⊤)
      pub sent : SentAnswered done k

    -- A pipeline was told to stop and has stopped: no job is out; what was accepted since it was opened is settled, and what came in no parcel was acknowledged to its input,
    -- unless that is closed; and each parcel that it took has its answer, where it goes on with the sender. Where it drains nothing is left in the queue, and what it
    -- sent is answered.
    pub record IsStopped (drains : ℕ → Bool) (i : Image) : Type 0 where
      pub no_jobs : (o : Out) → IsIn o (after makes start (told_by k done)).out → o.verdicts ≢ None
      pub settled : (a : Accepted) → IsIn a (accepted makes (told_by k done)) → a.row.number ≤ (after makes start (told_by k done)).front
      pub known : (a : Accepted) → IsIn a (accepted makes (told_by k done)) → a.parcel ≡ None
          → IsClosed makes listening (told_by k done) a.row.input ⊎ WasAssuredOf makes listening (told_by k done) a.row.input a.row.number
      pub taken : TakenAnswered links k (IsServed drains)
      pub empty : drains k ≡ true → IsEmpty (told_by k done) i
      pub sent : drains k ≡ true → SentAnswered done k

-- Where nothing is left in the queue of a pipeline, all stands that was due of each of its rows.
abbrev pub EmptyIsDelivered : Type 0
EmptyIsDelivered =
    (makes : Makes) (listening : Listening) (sources : Sources) (bytes : Bytes) (places : Places) (told : List Entry) (i : Image) (w : Written) → LineSound makes bytes places told i
    → IsEmpty makes listening sources places told i → IsIn w (after makes start told).rows → AllStands makes bytes places told i w
