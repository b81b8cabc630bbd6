-- What a line does that others can know of is legal: each delivery to an address that it tells is backed by an answer of its own.
use Rattle.std.specs.Prelude.{◌≡◌, ◌≢◌, ◌⊎◌, ℕ, ◌≤◌, false, List, [], ◌∷◌, ◌++◌, map, Some, None, ⊤}
use Rattle.io_traits.specs.Images.{Image}
use Rattle.event_tree.specs.Events.{Ev}
use Rattle.foreign_parts.specs.declared.place.Place.TheVariants as place
use Rattle.pipeline_bus.specs.Ends.{Sending}
use Rattle.pipeline_bus.specs.Parcels.{is_last, with_events}
use Rattle.pipeline_bus.specs.declared.parcel.Answer.{Answer}
use Rattle.pipeline_bus.specs.declared.parcel.Heard.TheVariants.{Assured}
use Rattle.pipeline_bus.specs.declared.parcel.Parcel.{Parcel}
use Rattle.event_flow.specs.Meaning.{Makes, Due}
use Rattle.event_flow.specs.Meaning as due
use Rattle.history_book.specs.Contents.{Bytes}
use Rattle.history_book.specs.Deeds.{Deed, Send, Hear, told_of, tell_all, no_mail, mail_after, sent_on, heard_on, Assurance, DidLegally}
use Rattle.history_book.specs.Entries.{Entry}
use Rattle.history_book.specs.Links.{Listening}
use Rattle.history_book.specs.Lists.{IsIn}
use Rattle.history_book.specs.Sound.{Places, LineSound}
use Rattle.history_book.specs.States.{start}
use Rattle.line_machine.specs.Ends.{SenderView, sender_at}
use Rattle.line_machine.specs.Openings.{IsOpenedLine, opening}
use Rattle.line_machine.specs.Stands.{Stands}
use Rattle.line_machine.specs.Steps as m
use Rattle.line_machine.specs.Steps.{Step, effect, GoesOn}
use Rattle.line_machine.specs.Views.{Batch, LineView}

-- the parcel of this number was sent with these events
pub record WasSent (s : Sending) (number : ℕ) (events : List Ev) : Type 0 where
  pub parcel : Parcel
  pub sent : IsIn parcel s.sent
  pub some : is_last parcel ≡ false
  pub number_is : parcel.number ≡ number
  pub events_are : parcel.events ≡ events

abbrev pub IsAssured : Sending → ℕ → Type 0
IsAssured s number = IsIn (record { number = number; answer = Assured }) s.heard

-- no two are the same
abbrev pub AllDiffer : List ℕ → Type 0
AllDiffer [] = ⊤
AllDiffer (n ∷ numbers) = (IsIn n numbers → ⊥) × AllDiffer numbers

-- of a batch the next delivery is to this address, and it was sent in the parcel of this number
pub record IsSent (b : Batch) (address : List ℕ) (number : ℕ) : Type 0 where
  pub parcel : b.parcel ≡ Some number
  pub id : List ℕ
  pub events : List Ev
  pub rest : List Due
  pub next : b.left ≡ due.Events id (place.Address address) events ∷ rest

-- what a batch waits for was sent with its next delivery
abbrev pub IsOnItsWay : List SenderView → Batch → Type 0
IsOnItsWay senders b =
    (number : ℕ) → b.parcel ≡ Some number → (address : List ℕ) × (is : IsSent b address number) × (s : SenderView) × (sender_at address senders ≡ Some s) × WasSent s.sends number is.events

-- of each parcel with events that was sent an answer came, or a batch waits for it
abbrev pub IsHeardOf : List Batch → List ℕ → Sending → Parcel → Type 0
IsHeardOf batches address s p = ((a : Answer) × IsIn a s.heard × (a.number ≡ p.number)) ⊎ ((b : Batch) × IsIn b batches × IsSent b address p.number)

-- what went through the end of an address is what these deeds say since the line was opened
pub record IsMail (deeds : List Deed) (address : List ℕ) (s : Sending) : Type 0 where
  pub sent : s.sent ≡ sent_on address (mail_after no_mail deeds).sent
  pub heard : s.heard ≡ heard_on address (mail_after no_mail deeds).heard

module _ (makes : Makes) where
  -- These deeds are legal behind what was told in earlier runs: each delivery to an address was told once an answer was heard, since the line was opened, that says that a parcel of exactly these events is
  -- assured, and each such answer served one. What went through the ends by which the line sends is what the deeds say. No two batches wait for one parcel, and an
  -- answer for which a batch waits, and that was heard, served none yet.
  pub record DoesLegally (earlier : List Entry) (deeds : List Deed) (batches : List Batch) (senders : List SenderView) : Type 0 where
    pub left : List Assurance
    pub legal : DidLegally makes earlier deeds left
    pub mail : (address : List ℕ) (s : SenderView) → sender_at address senders ≡ Some s → IsMail deeds address s.sends
    pub none : (address : List ℕ) → sender_at address senders ≡ None → (sent_on address (mail_after no_mail deeds).sent ≡ []) × (heard_on address (mail_after no_mail deeds).heard ≡ [])
    pub differ : AllDiffer (map (λ (b : Batch). b.number) batches)
    pub away : (b : Batch) → IsIn b batches → b.verdicts ≡ None → b.parcel ≡ None
    pub on_the_way : (b : Batch) → IsIn b batches → IsOnItsWay senders b
    pub apart : (b c : Batch) → IsIn b batches → IsIn c batches → b.number ≢ c.number → (address : List ℕ) (number : ℕ) → IsSent b address number → IsSent c address number → ⊥
    pub numbered : (address : List ℕ) (s : SenderView) → sender_at address senders ≡ Some s → (p : Parcel) → IsIn p s.sends.sent → is_last p ≡ false → p.number ≤ with_events s.sends.sent
    pub answered : (address : List ℕ) (s : SenderView) → sender_at address senders ≡ Some s → (a : Answer) → IsIn a s.sends.heard → a.number ≤ with_events s.sends.sent
    pub heard : (address : List ℕ) (s : SenderView) → sender_at address senders ≡ Some s → (p : Parcel) → IsIn p s.sends.sent → is_last p ≡ false → IsHeardOf batches address s.sends p
    pub unused : (b : Batch) → IsIn b batches → (address : List ℕ) (number : ℕ) (is : IsSent b address number) (s : SenderView) → sender_at address senders ≡ Some s → IsAssured s.sends number
        → IsIn (record { address = address; number = number; events = is.events }) left

module _ (makes : Makes) (listening : Listening) (bytes : Bytes) (places : Places) where
  -- what a step does: a parcel is sent, an answer is heard, or entries are told
  abbrev pub deeds_of : (i : LineView places) → Step makes listening bytes i → List Deed
  deeds_of i (m.Sends n id address events rest h none p is some may) = Send address p ∷ []
  deeds_of i (m.Hears address a s has turn waits) = Hear address a ∷ []
  deeds_of i (m.Sends_last address p last may is) = Send address p ∷ []
  deeds_of i x = tell_all (effect makes listening bytes i x).told

  -- So it is once a line was opened, behind whatever was told before, and behind each step.
  abbrev pub OpenedDoesLegally : Type 0
  OpenedDoesLegally =
      (told : List Entry) (image : Image) (sound : LineSound makes bytes places told image) (i : LineView places) → IsOpenedLine makes listening bytes places told image sound i
      → DoesLegally makes told (tell_all told ++ tell_all (opening makes listening bytes places told image sound i)) i.batches i.senders

  abbrev pub DoesLegallyStill : Type 0
  DoesLegallyStill =
      (earlier : List Entry) (deeds : List Deed) (i : LineView places) (x : Step makes listening bytes i) → Stands makes bytes places (told_of deeds) i → DoesLegally makes earlier deeds i.batches i.senders
      → GoesOn makes listening bytes i x
      → DoesLegally makes earlier (deeds ++ deeds_of i x) (effect makes listening bytes i x).line.batches (effect makes listening bytes i x).line.senders
