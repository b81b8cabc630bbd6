-- All that holds of a line, from its opening on.
use Rattle.std.specs.Prelude.{List, [], ◌++◌, ℕ}
use Rattle.io_traits.specs.Images.{Image}
use Rattle.event_flow.specs.Meaning.{Makes}
use Rattle.history_book.specs.Contents.{Bytes}
use Rattle.history_book.specs.Deeds.{Deed, told_of, tell_all}
use Rattle.history_book.specs.Entries.{Entry}
use Rattle.history_book.specs.Links.{Listening}
use Rattle.history_book.specs.Sound.{Places, LineSound}
use Rattle.history_book.specs.States.{start, after}
use Rattle.line_machine.specs.declared.calls.Call.{Call}
use Rattle.line_machine.specs.Accepting.{WaysStand}
use Rattle.line_machine.specs.Answering.{LinksStand}
use Rattle.line_machine.specs.Answers.{Parts, None_before, First, Did}
use Rattle.line_machine.specs.Boxes.{BoxesStand}
use Rattle.line_machine.specs.Coming.{and_came, InputsStand}
use Rattle.line_machine.specs.Covering.{MarksCover, RowsAreCovered}
use Rattle.line_machine.specs.Doing.{DoesLegally, deeds_of}
use Rattle.line_machine.specs.Effects.{Effect}
use Rattle.line_machine.specs.Kits.{AreOfTheirs}
use Rattle.line_machine.specs.Openings.{IsOpenedLine, opening}
use Rattle.line_machine.specs.Serving.{EndsStand}
use Rattle.line_machine.specs.Settling.{Settles}
use Rattle.line_machine.specs.Stands.{Stands}
use Rattle.line_machine.specs.Steps.{Step, effect, GoesOn}
use Rattle.line_machine.specs.Views.{Incoming, LineView}

module _ (makes : Makes) (listening : Listening) (bytes : Bytes) (places : Places) where
  -- what a line did behind what was told in earlier runs, and what came to its inputs since it was opened, beside all that it keeps of it
  pub record LineStands (earlier : List Entry) (deeds : List Deed) (came : ℕ → List Incoming) (i : LineView places) : Type 0 where
    pub stands : Stands makes bytes places (told_of deeds) i
    pub settles : Settles (after makes start (told_of deeds)) i
    pub links : LinksStand makes listening (told_of deeds) i.takers i.next_place
    pub ends : EndsStand listening i.inputs i.takers
    pub inputs : InputsStand listening (told_of deeds) came i
    pub ways : WaysStand listening (told_of deeds) i.inputs i.takers
    pub senders : DoesLegally makes earlier deeds i.batches i.senders
    pub rows : RowsAreCovered (told_of deeds) i
    pub marks : MarksCover i
    pub kits : AreOfTheirs i
    pub boxes : BoxesStand i

  -- So it is once a line was opened, behind whatever was told before in earlier runs, and behind each step.
  abbrev pub OpenedStandsWhole : Type 0
  OpenedStandsWhole =
      (told : List Entry) (image : Image) (sound : LineSound makes bytes places told image) (i : LineView places) → IsOpenedLine makes listening bytes places told image sound i
      → LineStands told (tell_all told ++ tell_all (opening makes listening bytes places told image sound i)) (λ n. []) i

  abbrev pub StandsWholeStill : Type 0
  StandsWholeStill =
      (earlier : List Entry) (deeds : List Deed) (came : ℕ → List Incoming) (i : LineView places) (x : Step makes listening bytes i) → LineStands earlier deeds came i → GoesOn makes listening bytes i x
      → LineStands earlier (deeds ++ deeds_of makes listening bytes places i x) (and_came came (effect makes listening bytes i x).came) (effect makes listening bytes i x).line

  -- what a call does: its steps before the last one, and that
  abbrev pub deeds_of_parts : (x : Call) (i j : LineView places) → Parts makes listening bytes x i j → List Deed
  deeds_of_parts x i j (None_before _) = []
  deeds_of_parts x i j (First _ _ s part parts) = deeds_of makes listening bytes places i s ++ deeds_of_parts x (effect makes listening bytes i s).line j parts

  abbrev pub deeds_of_call : (x : Call) (i : LineView places) (e : Effect places) → Did makes listening bytes x i e → List Deed
  deeds_of_call x i e did = deeds_of_parts x i did.line did.before ++ deeds_of makes listening bytes places did.line did.step

  -- So it is behind each call, by its answer.
  abbrev pub CallsStandWhole : Type 0
  CallsStandWhole =
      (earlier : List Entry) (deeds : List Deed) (came : ℕ → List Incoming) (i : LineView places) (x : Call) (e : Effect places) → LineStands earlier deeds came i → (did : Did makes listening bytes x i e)
      → GoesOn makes listening bytes did.line did.step → LineStands earlier (deeds ++ deeds_of_call x i e did) (and_came came e.came) e.line
