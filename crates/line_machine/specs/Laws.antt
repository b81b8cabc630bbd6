-- What holds of whatever the machine allows.
use Rattle.std.specs.Prelude.{◌⊎◌, List, ◌++◌}
use Rattle.io_traits.specs.Images.{Image}
use Rattle.event_flow.specs.Meaning.{Makes}
use Rattle.history_book.specs.Contents.{Bytes}
use Rattle.history_book.specs.Entries.{Entry}
use Rattle.queue_files.specs.Kept.{Queue}
use Rattle.queue_files.specs.Steps.{marked, rolled}
use Rattle.history_book.specs.Holdings.{HoldsTold, StopLeaves}
use Rattle.history_book.specs.Legal.{Legal}
use Rattle.history_book.specs.Links.{Listening}
use Rattle.history_book.specs.Sound.{Places, LineSound}
use Rattle.history_book.specs.States.{start}
use Rattle.line_machine.specs.declared.calls.Call.{Call}
use Rattle.line_machine.specs.Answers.{Did}
use Rattle.line_machine.specs.Effects.{Effect, MayLeave, with_queue}
use Rattle.line_machine.specs.Finds.{HasSpent, without_page}
use Rattle.line_machine.specs.Stands.{Stands}
use Rattle.line_machine.specs.Steps.{Step, effect, GoesOn}
use Rattle.line_machine.specs.Views.{LineView}

-- The queues that a line's folder may hold on the way of a step: all is recorded, and then a new head page is begun; or a spent page is gone.
pub data IsOnTheWay (q : Queue) : Queue → Type 0 where
  All_recorded : IsOnTheWay q (marked q)
  Page_begun : IsOnTheWay q (rolled (marked q))
  Page_gone : (h : HasSpent q) → IsOnTheWay q (without_page q h)

module _ (makes : Makes) (bytes : Bytes) (places : Places) where
  -- What a call makes of a line that stood where these entries put it: the history with what it tells is legal, and its places hold what that says; whatever a
  -- stop leaves at any moment of it is sound with the history of before or of behind the call; and where it went well, the line stands there.
  pub record FollowsAs (told : List Entry) (i : LineView places) (e : Effect places) (well : Type 0) : Type 0 where
    pub legal : Legal makes start (told ++ e.told)
    pub holds : HoldsTold makes bytes places (told ++ e.told) e.behind
    pub images : (image : Image) → MayLeave makes bytes places told i e image → LineSound makes bytes places told image ⊎ LineSound makes bytes places (told ++ e.told) image
    pub stands : well → Stands makes bytes places (told ++ e.told) e.line

  -- so it is with each step of the machine
  abbrev pub StepsFollow : Listening → Type 0
  StepsFollow listening =
      (told : List Entry) (i : LineView places) (s : Step makes listening bytes i) → Stands makes bytes places told i
      → FollowsAs told i (effect makes listening bytes i s) (GoesOn makes listening bytes i s)

  -- and so with each call, by its answer
  abbrev pub CallsFollow : Listening → Type 0
  CallsFollow listening =
      (told : List Entry) (i : LineView places) (x : Call) (e : Effect places) → Stands makes bytes places told i → (did : Did makes listening bytes x i e)
      → FollowsAs told i e (GoesOn makes listening bytes did.line did.step)

  -- whatever a stop leaves of a queue that a step makes on its way, it may leave before the step, too: so the steps name none
  abbrev pub WaysLeaveNoMore : Type 0
  WaysLeaveNoMore =
      (told : List Entry) (i : LineView places) (q : Queue) (image : Image) → Stands makes bytes places told i → IsOnTheWay i.holds.queue q → StopLeaves makes bytes places told (with_queue q i.holds) image
      → StopLeaves makes bytes places told i.holds image
