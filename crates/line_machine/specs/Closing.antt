-- The end of a line: what it closes, and that each kit and each box that it had was closed once by then.
use Rattle.std.specs.Prelude.{◌≡◌, ℕ, ◌+◌, List, [], ◌++◌, ⊤}
use Rattle.event_flow.specs.Meaning.{Makes}
use Rattle.history_book.specs.Contents.{Bytes}
use Rattle.history_book.specs.Deeds.{Deed}
use Rattle.history_book.specs.Entries.{Entry}
use Rattle.history_book.specs.Links.{Listening}
use Rattle.history_book.specs.Sound.{Places}
use Rattle.line_machine.specs.Boxes.{new_boxes}
use Rattle.line_machine.specs.Choices.{HasNothingToDo}
use Rattle.line_machine.specs.Effects.{Effect, quiet}
use Rattle.line_machine.specs.Kits.{weigh, kits_out, kits_of, new_kits}
use Rattle.line_machine.specs.Laws.{FollowsAs}
use Rattle.line_machine.specs.Lines.{LineStands}
use Rattle.line_machine.specs.Stands.{Stands}
use Rattle.line_machine.specs.Steps.{Step, effect, GoesOn}
use Rattle.line_machine.specs.Views.{Kit, Box, Incoming, LineView}

module _ {places : Places} where
  -- what is left of a line that closed these: no kit is at home, and no box is there; nothing is told of it, and its places hold what they held
  abbrev pub closing : LineView places → List Kit → List Box → Effect places
  closing i kits boxes = record (quiet i (record i { kits = []; boxes = [] })) { closed = kits; closed_boxes = boxes }

  -- The call `close`, the last of a line, which ends by a fault, at rest or stopped. It is no step: there is no line behind it. It closes each kit at home and each box
  -- once, in any order; a kit that is out stays with its job.
  pub record Closes (i : LineView places) (e : Effect places) : Type 0 where
    pub kits : (w : Kit → ℕ) → weigh w e.closed ≡ weigh w i.kits
    pub boxes : (w : Box → ℕ) → weigh w e.closed_boxes ≡ weigh w i.boxes
    pub effect_is : e ≡ closing i e.closed e.closed_boxes

module _ (makes : Makes) (listening : Listening) (bytes : Bytes) (places : Places) where
  -- steps of a line, one behind the other; it need not go on from the last
  pub data Lived : LineView places → LineView places → Type 0 where
    Begins_so : (i : LineView places) → Lived i i
    Makes_step : (i j : LineView places) (x : Step makes listening bytes i) → Lived (effect makes listening bytes i x).line j → Lived i j

  -- the kits and the boxes that these closed
  abbrev pub kits_closed : (i j : LineView places) → Lived i j → List Kit
  kits_closed i j (Begins_so _) = []
  kits_closed i j (Makes_step _ _ x rest) = (effect makes listening bytes i x).closed ++ kits_closed (effect makes listening bytes i x).line j rest

  abbrev pub boxes_closed : (i j : LineView places) → Lived i j → List Box
  boxes_closed i j (Begins_so _) = []
  boxes_closed i j (Makes_step _ _ x rest) = (effect makes listening bytes i x).closed_boxes ++ boxes_closed (effect makes listening bytes i x).line j rest

  -- and those that came meanwhile, with configurations
  abbrev pub kits_came : (i j : LineView places) → Lived i j → List Kit
  kits_came i j (Begins_so _) = []
  kits_came i j (Makes_step _ _ x rest) = new_kits makes listening bytes places i x ++ kits_came (effect makes listening bytes i x).line j rest

  abbrev pub boxes_came : (i j : LineView places) → Lived i j → List Box
  boxes_came i j (Begins_so _) = []
  boxes_came i j (Makes_step _ _ x rest) = new_boxes makes listening bytes places i x ++ boxes_came (effect makes listening bytes i x).line j rest

  -- Of the kits that a line had and that came, each was closed once when the line has ended, or is out with a job; and of the boxes each was closed once.
  abbrev pub EndsCloseOnce : Type 0
  EndsCloseOnce =
      (i j : LineView places) (lived : Lived i j) (e : Effect places) → Closes j e
      → ((w : Kit → ℕ) → weigh w (kits_closed i j lived ++ e.closed) + weigh w (kits_out j.batches) ≡ weigh w (kits_of i) + weigh w (kits_came i j lived))
      × ((w : Box → ℕ) → weigh w (boxes_closed i j lived ++ e.closed_boxes) ≡ weigh w i.boxes + weigh w (boxes_came i j lived))

  -- a line that is at rest, or was told to stop and has come to an end, has no kit out: then each was closed once
  abbrev pub NoneIsOut : Type 0
  NoneIsOut = (earlier : List Entry) (deeds : List Deed) (came : ℕ → List Incoming) (i : LineView places) → LineStands makes listening bytes places earlier deeds came i → HasNothingToDo listening i → kits_out i.batches ≡ []

  -- a step that the line doesn't go on from closes none, and leaves the line as it was: its end closes all that it had
  abbrev pub FaultsCloseNone : Type 0
  FaultsCloseNone =
      (i : LineView places) (x : Step makes listening bytes i) → (GoesOn makes listening bytes i x → ⊥)
      → ((effect makes listening bytes i x).closed ≡ []) × ((effect makes listening bytes i x).closed_boxes ≡ []) × ((effect makes listening bytes i x).line ≡ i)

  -- the end leaves the history as it is, and whatever a stop leaves is sound with it
  abbrev pub EndsFollow : Type 0
  EndsFollow = (told : List Entry) (i : LineView places) (e : Effect places) → Stands makes bytes places told i → Closes i e → FollowsAs makes bytes places told i e ⊤
