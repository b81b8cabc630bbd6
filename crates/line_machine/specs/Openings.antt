-- A line that was opened over what a stop left, and lines behind several steps.
use Rattle.std.specs.Prelude.{◌≡◌, List, [], ◌∷◌, ◌++◌, map, None, false}
use Rattle.io_traits.specs.Images.{Image}
use Rattle.event_flow.specs.Meaning.{Makes}
use Rattle.history_book.specs.Contents.{Bytes}
use Rattle.history_book.specs.Entries.{Entry, Adopt, Opened}
use Rattle.history_book.specs.Holdings.{IsOpened}
use Rattle.history_book.specs.Inputs.{Input, Renumbered, named_from}
use Rattle.history_book.specs.Legal.{HasDraws}
use Rattle.history_book.specs.Links.{Listening}
use Rattle.history_book.specs.Lists.{IsIn}
use Rattle.history_book.specs.Sound.{Places, LineSound}
use Rattle.line_machine.specs.Effects.{begun, boxes_of}
use Rattle.line_machine.specs.Finds.{AreNew, AreEndsOf, AreUnused}
use Rattle.line_machine.specs.Recorded.{IsRecorded}
use Rattle.line_machine.specs.Stands.{Stands}
use Rattle.line_machine.specs.Steps.{Step, effect, GoesOn}
use Rattle.line_machine.specs.Views.{Kit, LineView}

module _ (makes : Makes) (listening : Listening) (bytes : Bytes) (places : Places) where
  -- What a stop left is opened: the queue gives all rows that are found, no batch is out, the kits and the boxes are those of the configuration, its inputs begin,
  -- nothing went through the ends of its links, nothing was written or acknowledged since, and it wasn't told to stop, nor with which ends it goes on then.
  pub record IsOpenedLine (told : List Entry) (image : Image) (sound : LineSound makes bytes places told image) (i : LineView places) : Type 0 where
    pub opened : IsOpened makes bytes places told image sound i.holds
    pub unread : i.unread ≡ sound.rows.rows
    pub kept : i.kept ≡ []
    pub batches : i.batches ≡ []
    pub draws : HasDraws i.plan.config i.plan.draws
    pub kits : (k : Kit) → IsIn k i.kits → k.generation ≡ i.plan.generation
    pub inputs : List Input
    pub numbered : Renumbered 0 [] (named_from 1 i.plan.config.inputs) inputs
    pub begun_all : i.inputs ≡ map begun inputs
    pub boxes : i.boxes ≡ boxes_of i.plan
    pub unmarked : i.mark ≡ None
    pub takers : AreNew [] i.takers 0 i.next_place
    pub listen : AreEndsOf listening inputs i.takers
    pub unused : AreUnused i.senders
    pub covered : i.uncovered ≡ false → IsRecorded i.holds.queue
    pub none_written : i.written ≡ 0
    pub none_acknowledged : i.acknowledged ≡ 0
    pub running : i.stopped ≡ false
    pub none_go_on : i.going ≡ []

  -- what the opening tells
  abbrev pub opening : (told : List Entry) (image : Image) → LineSound makes bytes places told image → LineView places → List Entry
  opening told image sound i = Opened sound.rows.rows i.limits.limit i.limits.policy ∷ Adopt i.plan.generation i.plan.config i.plan.draws ∷ []

  abbrev pub OpenedLineStands : Type 0
  OpenedLineStands =
      (told : List Entry) (image : Image) (sound : LineSound makes bytes places told image) (i : LineView places) → IsOpenedLine told image sound i
      → Stands makes bytes places (told ++ opening told image sound i) i

  -- Steps one behind the other, each of which the line goes on from, and what they tell.
  pub data Runs : LineView places → List Entry → LineView places → Type 0 where
    Stays : (i : LineView places) → Runs i [] i
    Goes : (i j : LineView places) (told : List Entry) (x : Step makes listening bytes i) → GoesOn makes listening bytes i x → Runs (effect makes listening bytes i x).line told j
        → Runs i ((effect makes listening bytes i x).told ++ told) j

  abbrev pub RunsStand : Type 0
  RunsStand = (told more : List Entry) (i j : LineView places) → Stands makes bytes places told i → Runs i more j → Stands makes bytes places (told ++ more) j
