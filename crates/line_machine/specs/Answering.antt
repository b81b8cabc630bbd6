-- What a line took from links, and answered, against what it told.
use Rattle.std.specs.Prelude.{◌≡◌, ◌⊎◌, ◌≤◌, ◌<◌, ℕ, false, List, [], ◌++◌, map, None}
use Rattle.pipeline_bus.specs.Ends.{no_taking}
use Rattle.pipeline_bus.specs.Parcels.{is_last}
use Rattle.pipeline_bus.specs.declared.parcel.Answer.{Answer}
use Rattle.pipeline_bus.specs.declared.parcel.Parcel.{Parcel}
use Rattle.io_traits.specs.Images.{Image}
use Rattle.event_flow.specs.Meaning.{Makes}
use Rattle.history_book.specs.Contents.{Bytes}
use Rattle.history_book.specs.Entries.{Entry, ParcelAt}
use Rattle.history_book.specs.Links.{Listening, Link, TakerSound, rows_of}
use Rattle.history_book.specs.Lists.{IsIn, Rise}
use Rattle.history_book.specs.Sound.{Places, LineSound}
use Rattle.history_book.specs.States.{Written, numbers_of}
use Rattle.line_machine.specs.Ends.{Waiting, TakerView, AreApart}
use Rattle.line_machine.specs.Openings.{IsOpenedLine, opening}
use Rattle.line_machine.specs.Stands.{Stands}
use Rattle.line_machine.specs.Steps.{Step, effect, GoesOn}
use Rattle.line_machine.specs.Views.{LineView}

-- the line's own part of a link, as far as it took and answered parcels there
abbrev pub own_link : TakerView → Link
own_link t = record { from = None; to = 0; address = t.address; place = t.place; takes = no_taking; taken = t.taken; given = t.given; lost = [] }

module _ (makes : Makes) (listening : Listening) where
  abbrev pub rows_at : List Entry → TakerView → ℕ → List Written
  rows_at told t number = rows_of makes (record { place = t.place; number = number }) told

  -- a parcel that waits was taken, and these are its rows
  pub record IsWaiting (told : List Entry) (t : TakerView) (w : Waiting) : Type 0 where
    pub parcel : Parcel
    pub taken : IsIn parcel t.taken
    pub number : parcel.number ≡ w.number
    pub some : is_last parcel ≡ false
    pub events : parcel.events ≡ w.events
    pub rows : numbers_of (rows_at told t w.number) ≡ w.rows

  -- What it took and answered agrees with what was told: rows that name a parcel are what is made of its first events, its answers are true, and the parcels that
  -- wait stand behind those that are answered.
  pub record TakerStands (told : List Entry) (t : TakerView) : Type 0 where
    pub sound : TakerSound makes listening told (own_link t)
    pub waits : (w : Waiting) → IsIn w t.waits → IsWaiting told t w
    pub rise : Rise 0 (map (λ (w : Waiting). w.number) t.waits)
    pub waits_next : (w : Waiting) → IsIn w t.waits → w.number < t.next
    pub given_before : (a : Answer) → IsIn a t.given → (w : Waiting) → IsIn w t.waits → a.number < w.number
    pub given_next : (a : Answer) → IsIn a t.given → a.number < t.next
    pub taken_next : (p : Parcel) → IsIn p t.taken → is_last p ≡ false → p.number < t.next
    pub accounted : (p : Parcel) → IsIn p t.taken → is_last p ≡ false → ((w : Waiting) × IsIn w t.waits × (w.number ≡ p.number)) ⊎ ((a : Answer) × IsIn a t.given × (a.number ≡ p.number))
    pub unique : (p q : Parcel) → IsIn p t.taken → IsIn q t.taken → is_last p ≡ false → is_last q ≡ false → p.number ≡ q.number → p ≡ q

  -- So does each end, which has a place of its own below the next one, and no row names a place from that on.
  pub record LinksStand (told : List Entry) (ts : List TakerView) (next_place : ℕ) : Type 0 where
    pub each : (t : TakerView) → IsIn t ts → TakerStands told t
    pub apart : AreApart ts
    pub below : (t : TakerView) → IsIn t ts → t.place < next_place
    pub no_others : (at : ParcelAt) → next_place ≤ at.place → rows_of makes at told ≡ []

module _ (makes : Makes) (listening : Listening) (bytes : Bytes) (places : Places) where
  -- So it is once a line was opened, and behind each step.
  abbrev pub OpenedLinksStand : Type 0
  OpenedLinksStand =
      (told : List Entry) (image : Image) (sound : LineSound makes bytes places told image) (i : LineView places) → IsOpenedLine makes listening bytes places told image sound i
      → LinksStand makes listening (told ++ opening makes listening bytes places told image sound i) i.takers i.next_place

  -- Whatever step a line makes, what it took and answered agrees with what it told: an answer that a parcel is assured is given only where all its events stand in rows that
  -- are settled, and one that nobody listens only for a parcel of which no event was accepted.
  abbrev pub AnswersStand : Type 0
  AnswersStand =
      (told : List Entry) (i : LineView places) (x : Step makes listening bytes i) → Stands makes bytes places told i → LinksStand makes listening told i.takers i.next_place → GoesOn makes listening bytes i x
      → LinksStand makes listening (told ++ (effect makes listening bytes i x).told) (effect makes listening bytes i x).line.takers (effect makes listening bytes i x).line.next_place
